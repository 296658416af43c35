pub mod AnsweredChains
