pub mod Noting
pub mod Room
pub mod WorkedFlows
