-- what public contracts cite
pub mod Runtime
pub mod Read
pub mod Named
pub mod Reaches
pub mod Wires
