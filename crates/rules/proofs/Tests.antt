-- Laws of tests: those of `program`, passed on to the crates above.
pub use Rattle.program.proofs.Basic.{true_false, decide, and_true, and_intro, and_false, and_not, or_true, or_left, or_right, or_false, or_none, not-true, not-false, cond_zero}
