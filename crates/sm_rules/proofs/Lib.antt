pub mod AllRules
