-- The first rule that a strip breaks: one constructor or more a line of the card (01, "Numbers on the inspector's card"; 02, C-13), each of which
-- asks what 01 asks before it.
use Rattle.std.specs.Prelude.{ℕ, ◌+◌, ◌≤◌, ◌<◌, ◌≡◌, List, [], ◌∷◌, ◌++◌, map, length}
use Rattle.card.specs.Card.{DONE, LONG, SHORT, MARK, VERSION, COUNT, KIND, OPCODE, FLOAT, NUMBER, LANE, ALIGN, LOCAL, OPERAND, DEEP, RESULT, TRAILING, NEST, LABEL}
use Rattle.limits.specs.Limits.{file_limit, parameter_limit, local_limit, result_limit, stack_limit, nest_limit}
use Rattle.opcode.specs.Kind.{Kind, kind_byte}
use Rattle.opcode.specs.Table.{End, Code, plain}
use Rattle.instr.specs.declared.Instr.{Instr}
use Rattle.instr.specs.Refuses.{Refuses}
use Rattle.rules.specs.Header.{Version, Header, Few, mark, version_bytes, locals}
use Rattle.rules.specs.Typing.{Frame, all_values, Target, Local, Types, Names, Opens, Branches, Ends}
use Rattle.rules.specs.Strip.{Reads, Reaches, Valid}

-- the bytes before the counts
abbrev pub preamble : ℕ → List ℕ
preamble v = mark ++ version_bytes v

-- of a length at which anything else is asked
pub record Sized (s : List ℕ) : Type 0 where
  pub most : length s ≤ file_limit
  pub least : 8 ≤ length s

-- an instruction is refused, at a place which all before it reaches
pub record Refused (s : List ℕ) (code place : ℕ) : Type 0 where
  pub header : Header
  pub at : ℕ
  pub frames : List Frame
  pub reached : Reaches s header at frames
  pub refuses : Refuses header.version s at code place

-- an instruction is read at p, which all before it reaches
pub record At (s : List ℕ) (h : Header) (p : ℕ) (fs : List Frame) (i : Instr) (c : Code) : Type 0 where
  pub reached : Reaches s h p fs
  pub size : ℕ
  pub reads : Reads h.version s p i c size

pub data Breach (s : List ℕ) : ℕ → ℕ → Type 0 where
  long : file_limit < length s → Breach s LONG 0
  stub : length s < 8 → Breach s SHORT (length s)
  unmarked : Sized s → ((rest : List ℕ) → s ≡ mark ++ rest → ⊥) → Breach s MARK 0
  other_version : (rest : List ℕ) → Sized s → s ≡ mark ++ rest → ((v : ℕ) (more : List ℕ) → Version v → s ≡ preamble v ++ more → ⊥) → Breach s VERSION 3
  parameters : (v p : ℕ) (rest : List ℕ) → Sized s → Version v → s ≡ preamble v ++ p ∷ rest → parameter_limit < p → Breach s COUNT 5
  further : (v p l : ℕ) (rest : List ℕ) → Sized s → Version v → s ≡ preamble v ++ p ∷ l ∷ rest → p ≤ parameter_limit → local_limit < l → Breach s COUNT 6
  results : (v p l r : ℕ) (rest : List ℕ) → Sized s → Version v → s ≡ preamble v ++ p ∷ l ∷ r ∷ rest → p ≤ parameter_limit → l ≤ local_limit → result_limit < r → Breach s COUNT 7
  kind : (v p l r b : ℕ) (ks : List Kind) (rest : List ℕ) → Sized s → Version v → s ≡ preamble v ++ p ∷ l ∷ r ∷ map kind_byte ks ++ b ∷ rest → Few p l r
      → length ks < p + l + r → ((k : Kind) → b ≡ kind_byte k → ⊥) → Breach s KIND (8 + length ks)
  kinds_short : (v p l r : ℕ) (ks : List Kind) → Sized s → Version v → s ≡ preamble v ++ p ∷ l ∷ r ∷ map kind_byte ks → Few p l r → length ks < p + l + r
      → Breach s SHORT (length s)
  short : {place : ℕ} → Refused s SHORT place → Breach s SHORT place
  block_type : {place : ℕ} → Refused s KIND place → Breach s KIND place
  opcode : {place : ℕ} → Refused s OPCODE place → Breach s OPCODE place
  float : {place : ℕ} → Refused s FLOAT place → Breach s FLOAT place
  number : {place : ℕ} → Refused s NUMBER place → Breach s NUMBER place
  lane : {place : ℕ} → Refused s LANE place → Breach s LANE place
  align : {place : ℕ} → Refused s ALIGN place → Breach s ALIGN place
  local : {h : Header} {p : ℕ} {fs : List Frame} {i : Instr} {c : Code} → At s h p fs i c → Names c → ((k : Kind) → Local (locals h) i.index k → ⊥)
      → Breach s LOCAL p
  nest : {h : Header} {p : ℕ} {fs : List Frame} {i : Instr} {c : Code} → At s h p fs i c → Opens c → nest_limit < length fs → Breach s NEST p
  label : {h : Header} {p : ℕ} {fs : List Frame} {i : Instr} {c : Code} → At s h p fs i c → Branches c → ((g : Frame) → Target fs i.index g → ⊥) → Breach s LABEL p
  operand : {h : Header} {p : ℕ} {fs : List Frame} {i : Instr} {c : Code} → At s h p fs i c → (c ≡ plain End → ⊥) → (Names c → (k : Kind) × Local (locals h) i.index k)
      → (Branches c → (g : Frame) × Target fs i.index g) → ((fs' : List Frame) → Types (locals h) i c fs fs' → ⊥) → Breach s OPERAND p
  deep : {h : Header} {p : ℕ} {fs fs' : List Frame} {i : Instr} {c : Code} → At s h p fs i c → Types (locals h) i c fs fs' → stack_limit < length (all_values fs')
      → Breach s DEEP p
  result : {h : Header} {p : ℕ} {fs : List Frame} {i : Instr} → At s h p fs i (plain End) → (Ends fs → ⊥) → Breach s RESULT p
  trailing : {h : Header} {p : ℕ} {f : Frame} {i : Instr} → At s h p (f ∷ []) i (plain End) → Ends (f ∷ []) → p + 1 < length s → Breach s TRAILING (p + 1)

-- what the check says: a code and a place
pub data Says (s : List ℕ) : ℕ → ℕ → Type 0 where
  valid : Valid s → Says s DONE 0
  breach : {code place : ℕ} → Breach s code place → Says s code place
