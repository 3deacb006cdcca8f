-- What only proofs and inner contracts need of runs of host bytes: text, and sequences.
pub mod Texts
pub mod Sequences
