pub mod RoomFacts
