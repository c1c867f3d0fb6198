-- Lemmas; no part of the meaning.
pub mod ShapeRank
pub mod ShapeBounds
pub mod DiagramShape
pub mod SizedShape
pub mod ShapeIndex
pub mod Heights
pub mod DiagramFormula
pub mod TableauFormula
pub mod PlaceFormula
pub mod Formula
pub mod RankOrder
pub mod Weight
pub mod SizeOf
pub mod FindSize
pub mod VectorAt
pub mod Inner
pub mod WriteMatrix
