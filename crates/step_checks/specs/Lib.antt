-- what contracts cite
pub mod Carried
