-- What a user must believe: which segments are drawn, what vertices and edges are, the drawing, and its text.
pub mod Segments
pub mod Vertices
pub mod Edges
pub mod Drawings
pub mod FoldText
-- What serves inner calls and loops alone.
pub mod Listing
pub mod Meshes
pub mod Numbering
