pub mod BatchTurns
