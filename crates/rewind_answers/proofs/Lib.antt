pub mod AnswerLaws
pub mod TextLaws
