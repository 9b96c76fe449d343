pub mod WordsLemmas
pub mod SessionLemmas
pub mod AskLemmas
pub mod ClapState
pub mod ClapTurns
pub mod ClapLemmas
