-- C-15 IN 02'S OWN NUMBERS. Of a strip that keeps every rule 20 is answered exactly where the memory has more than 1,048,576 bytes; 14 says that an
-- instruction leaves more than 256 known values, and nowhere in a strip that keeps every rule are there more; an image has room from 4,619 bytes on.
use Prim.Native.Nat.{ℕ, ◌≤◌, ◌<◌}
use mathlib.Core.Path.{◌≡◌, refl, sym, subst, ◌∙◌}
use mathlib.Core.List.{List, [], ◌∷◌}
use mathlib.Core.Logic.{◌↔◌, inl, inr}
use mathlib.Core.Option.{Option, some}
use native.Mathlib.Omega.{arith}
use lib.ListN.{length}
use Rattle.card.specs.Card.{ROOM, DEEP}
use Rattle.leb128.specs.Bytes.{bytes}
use Rattle.opcode.specs.Table.{Code}
use Rattle.instr.specs.declared.Instr.{Instr}
use Rattle.rules.specs.Header.{Header, locals}
use Rattle.rules.specs.Typing.{Frame, all_values, Types}
use Rattle.rules.specs.Strip.{Reaches, Valid}
use Rattle.rules.specs.Breach.{At, Breach, deep}
use Rattle.rules.proofs.Onward.{reached-within}
use Rattle.rules.proofs.Verdicts.{valid-no-breach}
use Rattle.standard.specs.Standard.{Config}
use Rattle.run.specs.Meter.{Left}
use Rattle.run.specs.Call.{Question, ◌or◌, Fails, AllWell, Asks, breaks, fails, Calls, refused, metered}
use Rattle.run.specs.Run.{Roomy, Runs}
use Rattle.run.specs.Resume.{Resumes}
use Rattle.run.specs.Told.{Told, told_done, told_trap, told_budget, Called, turned_away, told, Orderly}
use Rattle.run.proofs.Promises.{call-told, run_call, resume-call}

-- ---- 20

never-room : {s : List ℕ} {h : Header} {b : Config} {out : List ℕ} {img : Option (List ℕ)} {budget : ℕ} {x : Left} → Told s h b out img budget x → x.answer.code ≡ ROOM → ⊥
never-room (told_done k l e f g w) q = omega (arith, q)
never-room (told_trap k l e f g) q = omega (arith, q)
never-room (told_budget e) q = omega (arith, q)

-- none of these questions has that code
abbrev Others : List {1} Question → Type 0
Others [] = Unit {0}
Others ((P or c) ∷ qs) = (c ≡ ROOM → ⊥) × Others qs

-- the first asks for the memory, and no other has its code
abbrev MemoryFirst : ℕ → List {1} Question → Type 0
MemoryFirst n [] = ⊥
MemoryFirst n ((P or c) ∷ qs) = (c ≡ ROOM) × (P → n ≤ 1048576) × (n ≤ 1048576 → P) × Others qs

others-pass : (qs : List {1} Question) → Others qs → Fails qs ROOM → ⊥
others-pass [] o f = f
others-pass ((P or c) ∷ qs) o (inl f) = o.0 (sym f.1)
others-pass ((P or c) ∷ qs) o (inr f) = others-pass qs o.1 f.1

only-past : (n : ℕ) (qs : List {1} Question) → MemoryFirst n qs → Fails qs ROOM → 1048576 < n
only-past n [] m f = elim m [ ]
only-past n ((P or c) ∷ qs) m (inl f) = let no : n ≤ 1048576 → ⊥ = λ l. f.0 (m.2 l) in omega (arith, no)
only-past n ((P or c) ∷ qs) m (inr f) = absurd (others-pass qs m.3 f.1)

first_past : (n : ℕ) (qs : List {1} Question) (c : ℕ) → MemoryFirst n qs → Fails qs c → 1048576 < n → c ≡ ROOM
first_past n [] c m f l = elim m [ ]
first_past n ((P or d) ∷ qs) c m (inl f) l = f.1 ∙ m.0
first_past n ((P or d) ∷ qs) c m (inr f) l = absurd (let never : ⊥ = omega (arith, m.1 f.0, l) in never)

well-within : (n : ℕ) (qs : List {1} Question) → MemoryFirst n qs → AllWell qs → n ≤ 1048576
well-within n [] m w = elim m [ ]
well-within n ((P or c) ∷ qs) m w = m.1 w.0

-- of any call that asks so
module _ {s mem out : List ℕ} {img : Option (List ℕ)} {asks : Asks} {Starts : Header → Config → Type 0} {codes : List ℕ} (v : Valid s)
    (call : Orderly s mem out img asks Starts codes) (first : (h : Header) → MemoryFirst (length mem) (asks h)) where
  past : {budget : ℕ} {x : Left} → Called s mem out img budget asks Starts x → x.answer.code ≡ ROOM → 1048576 < length mem
  past (turned_away (breaks b)) q = absurd (valid-no-breach v b)
  past (turned_away (fails w f)) q = only-past (length mem) (asks w.header) (first w.header) (subst (Fails (asks w.header)) q f)
  past (told w c a e t) q = absurd (never-room t q)

  over : {budget : ℕ} {x : Left} → Calls s mem out img budget asks Starts x → 1048576 < length mem → x.answer.code ≡ ROOM
  over (refused (breaks b)) l = absurd (valid-no-breach v b)
  over (refused (fails {c} w f)) l = first_past (length mem) (asks w.header) c (first w.header) f l
  over (metered w c a e) l = absurd (let never : ⊥ = omega (arith, well-within (length mem) (asks w.header) (first w.header) a, l) in never)

  room-exact : {budget : ℕ} {x : Left} → Calls s mem out img budget asks Starts x → (x.answer.code ≡ ROOM) ↔ (1048576 < length mem)
  room-exact r = (past (call-told call r), over r)

pub run_room : {s args mem out : List ℕ} {img : Option (List ℕ)} {budget : ℕ} {x : Left} → Valid s → bytes mem → Runs s args mem out img budget x
    → (x.answer.code ≡ ROOM) ↔ (1048576 < length mem)
run_room {img = img} v m =
    room-exact v (run_call img m) (λ h. (refl, (λ l. l), (λ l. l), ((λ e. omega arith), ((λ e. omega arith), ((λ e. omega arith), ((λ e. omega arith), tt))))))

pub resume-room : {s mem out buffer : List ℕ} {budget : ℕ} {x : Left} → Valid s → Resumes s mem out buffer budget x → (x.answer.code ≡ ROOM) ↔ (1048576 < length mem)
resume-room v = room-exact v resume-call (λ h. (refl, (λ l. l), (λ l. l), ((λ e. omega arith), ((λ e. omega arith), ((λ e. omega arith), tt)))))

-- ---- 14

pub deep-many : {s : List ℕ} {p : ℕ} → Breach s DEEP p
    → (h : Header) × (fs fs' : List Frame) × (i : Instr) × (c : Code) × At s h p fs i c × Types (locals h) i c fs fs' × (256 < length (all_values fs'))
deep-many (deep {h} {p} {fs} {fs'} {i} {c} a t l) = (h, fs, fs', i, c, a, t, l)

pub reached-few : {s : List ℕ} {h : Header} {p : ℕ} {fs : List Frame} → Reaches s h p fs → length (all_values fs) ≤ 256
reached-few r = (reached-within r).values

-- ---- 24

pub image-room : (buffer : List ℕ) → Roomy (some buffer) ↔ (4619 ≤ length buffer)
image-room buffer = (λ l. l, λ l. l)
