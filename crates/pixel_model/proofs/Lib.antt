pub mod CarryLemmas
pub mod ColourLemmas
pub mod Origins
pub mod PaintLemmas
pub mod Pixels
pub mod StepLemmas
