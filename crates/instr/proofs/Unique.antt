-- What each public function promises leaves one answer, and one content of the buffer. `Post` is the function's own contract as the
-- prover reads it: at the lifetimes, the arguments as they come in, the answer, and the arguments as they are in the end.
use Prim.Native.Nat.{ℕ}
use mathlib.Core.Path.{◌≡◌, sym, ◌∙◌}
use Rattle.instr.specs.declared.Decoded.{Decoded}
use Rattle.instr.specs.declared.Fetched.{Fetched}
use Rattle.instr.specs.declared.Scanned.{Scanned}
use Rattle.instr.specs.declared.Encoded.{Encoded}
use Rattle.instr.proofs.decoding.decode.Reads as decode
use Rattle.instr.proofs.decoding.fetch.Reads as fetch
use Rattle.instr.proofs.scanning.scan.Reads as scan
use Rattle.instr.proofs.scanning.summary.Reads as summary
use Rattle.instr.proofs.encoding.encode.Reads as encode
use Rattle.instr.proofs.encoding.encoded_len.Reads as encoded-len

pub one-decoding : (κs : _) (a : _) (e e' : _) (r r' : Decoded) → decode.Post κs a r e → decode.Post κs a r' e' → r ≡ r'
one-decoding κs a e e' r r' p q = p ∙ sym q

pub one-fetch : (κs : _) (a : _) (e e' : _) (r r' : Fetched) → fetch.Post κs a r e → fetch.Post κs a r' e' → r ≡ r'
one-fetch κs a e e' r r' p q = p ∙ sym q

pub one-scan : (κs : _) (a : _) (e e' : _) (r r' : Scanned) → scan.Post κs a r e → scan.Post κs a r' e' → r ≡ r'
one-scan κs a e e' r r' p q = p ∙ sym q

pub one-summary : (κs : _) (a : _) (e e' : _) (r r' : Scanned) → summary.Post κs a r e → summary.Post κs a r' e' → r ≡ r'
one-summary κs a e e' r r' p q = p ∙ sym q

pub one-encoding : (κs : _) (a : _) (e e' : _) (r r' : Encoded) → encode.Post κs a r e → encode.Post κs a r' e' → (r ≡ r') × (e.1.1.0.now ≡ e'.1.1.0.now)
one-encoding κs a e e' r r' p q = (p.0 ∙ sym q.0, p.1 ∙ sym q.1)

pub one-length : (κs : _) (a : _) (e e' : _) (n n' : ℕ) → encoded-len.Post κs a n e → encoded-len.Post κs a n' e' → n ≡ n'
one-length κs a e e' n n' p q = p ∙ sym q
