pub mod SlotTexts
pub mod Columns
pub mod ScheduleTexts
pub mod inner
