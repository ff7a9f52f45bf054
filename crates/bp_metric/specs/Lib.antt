-- The statement, in which all layers speak: Distance, Metric, Valid, Choices, Chains, Coordinates, Next, Opening, Floor,
-- Refutation, Nodes, Stated, Records and Steady. Table serves the code within: where a distance is kept. Samples serves tests.
pub mod Distance
pub mod Metric
pub mod Table
pub mod Valid
pub mod Choices
pub mod Chains
pub mod Coordinates
pub mod Next
pub mod Opening
pub mod Floor
pub mod Refutation
pub mod Nodes
pub mod Samples
pub mod Stated
pub mod Records
pub mod Steady
