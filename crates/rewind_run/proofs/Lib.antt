pub mod AnsweredLaws
pub mod DriverLaws
pub mod RunLaws
pub mod StandLaws
