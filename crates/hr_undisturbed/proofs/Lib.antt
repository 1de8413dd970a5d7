pub mod ToldLemmas
pub mod LossLemmas
pub mod SuspicionLemmas
pub mod SmoothLemmas
