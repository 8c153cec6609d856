pub mod RuleBook
pub mod Demands
