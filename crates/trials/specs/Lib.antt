pub mod WorkedFlows
