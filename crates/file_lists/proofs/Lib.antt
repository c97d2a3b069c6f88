pub mod LeadTurns
