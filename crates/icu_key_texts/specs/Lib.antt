pub mod Compressions
pub mod LevelRests
pub mod KeyRests
pub mod TextCases
pub mod UsualForms
pub mod CommonRests
pub mod ThreeRests
