pub mod Giving
pub mod Regrouping
pub mod TypingLeaf
pub mod Given
pub mod TypingParts
pub mod TypingChain
pub mod TypingChoose
