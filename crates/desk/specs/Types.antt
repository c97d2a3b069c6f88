-- The declared types that the definitions here name, in one place.
pub use Rattle.rules.specs.declared.Settings.{Settings}
pub use Rattle.rules.specs.declared.Record.{Record}
pub use Rattle.rules.specs.declared.State.{State}
pub use Rattle.rules.specs.declared.Claims.{Claims}
pub use Rattle.rules.specs.declared.Refusal.{Refusal}
pub use Rattle.rules.specs.declared.Refusal.TheVariants.{Limits}
pub use Rattle.rules.specs.Types.{Answer, ReadAnswer, RewriteAnswer, MaintainAnswer, CountsAnswer, LoadAnswer, CompareAnswer, GreaterAnswer}
pub use Rattle.gc_course.specs.declared.Request.{Request}
pub use Rattle.salvage.specs.Answers.{SalvageAnswer}
pub use Rattle.through.specs.Answers.{ThroughAnswer}
pub use Rattle.script.specs.declared.Keyword.{Keyword}
pub use Rattle.desk.specs.declared.Bench.{Bench}
pub use Rattle.desk.specs.declared.Look.{Look}
pub use Rattle.desk.specs.declared.Look.TheVariants.{Comment, Help, List as Listing, Dump, Check, Bytes}
pub use Rattle.desk.specs.declared.Reply.{Reply}
pub use Rattle.desk.specs.declared.Reply.TheVariants.{BadLine, Answered, Read, Through, Planned, Rewrote, Maintained, Counted, Marks, Loaded, Compared, Raised, Salvaged, Shown}
pub use Rattle.desk.specs.declared.Turn.{Turn}
