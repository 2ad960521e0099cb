-- What the lister answers and writes (02, C-11, C-13): one line an instruction, with the kinds that the rules say: the whole known stack, those under
-- open blocks too.
use Rattle.std.specs.Prelude.{ℕ, ◌+◌, ◌<◌, ◌≤◌, ◌≡◌, List, [], ◌++◌, length, drop}
use Rattle.card.specs.Card.{DONE, SMALL}
use Rattle.instr.specs.declared.Instr.{Instr}
use Rattle.instr.specs.Layout.{Stands}
use Rattle.rules.specs.Header.{Header, header_bytes}
use Rattle.rules.specs.Typing.{Frame, all_values}
use Rattle.rules.specs.Strip.{Reaches, Valid}
use Rattle.rules.specs.Breach.{Breach}
use Rattle.listing.specs.Line.{line}
use Rattle.listing.specs.declared.Listed.{Listed}

-- the lines of the instructions from the place p to the end of the file
pub data Lines (s : List ℕ) (h : Header) : ℕ → List ℕ → Type 0 where
  no_more : {p : ℕ} → p ≡ length s → Lines s h p []
  one_more : {p n : ℕ} {fs : List Frame} {i : Instr} {text : List ℕ} → Reaches s h p fs → Stands h.version s p i n → Lines s h (p + n) text
      → Lines s h p (line p (all_values fs) i ++ text)

-- this is the listing of s, which keeps every rule
pub record Listing (s text : List ℕ) : Type 0 where
  pub valid : Valid s
  pub lines : Lines s valid.header (length (header_bytes valid.header)) text

abbrev pub answer : ℕ → ℕ → ℕ → Listed
answer c p n = record { code = c; place = p; len = n }

-- the strip, the output as it comes in; the answer, the output as it is left
pub data Lists (s out : List ℕ) : Listed → List ℕ → Type 0 where
  refused : {code place : ℕ} → Breach s code place → Lists s out (answer code place 0) out
  small : {text : List ℕ} → Listing s text → length out < length text → Lists s out (answer SMALL 0 0) out
  done : {text : List ℕ} → Listing s text → length text ≤ length out → Lists s out (answer DONE 0 (length text)) (text ++ drop (length text) out)
