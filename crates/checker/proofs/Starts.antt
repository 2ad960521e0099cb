-- Where the instructions begin: after the header that the strip declares.
use Prim.Native.Nat.{ℕ}
use mathlib.Core.Path.{◌≡◌, sym, ◌∙◌}
use mathlib.Core.List.{List}
use borrow.Author.Tests.{le-ltb}
use lib.ListN.{length}
use Rattle.rules.specs.Header.{Header, Declares, header_bytes}
use Rattle.rules.proofs.Strips.{header-length, header-counts}
use Rattle.checker.specs.Walk.{start_of}

pub starts-at : {s : List ℕ} {r : ℕ} → r ≡ start_of s → (h : Header) → Declares s h → r ≡ length (header_bytes h)
unfolding start_of
starts-at {s} e h d = e ∙ rw (le-ltb (length s) 8 (header-counts d)) (sym (header-length d))
