-- What is asked of the header, in 01's order: each line of the card is one rank, and the kind bytes are the last.
use Prim.Native.Nat.{ℕ, ◌+◌, ◌≤◌, ◌<◌}
use mathlib.Core.Path.{◌≡◌, refl, ap, ap₂}
use mathlib.Core.List.{List, [], ◌∷◌, ◌++◌, map}
use native.Mathlib.Omega.{arith}
use lib.ListN.{length, length-append}
use Rattle.limits.specs.Limits.{file_limit, parameter_limit, local_limit, result_limit}
use Rattle.opcode.specs.Kind.{Kind, kind_byte}
use Rattle.opcode.proofs.Effects.{kind-once}
use Rattle.rules.specs.Header.{Version, Header, Few, Declares, mark, version_bytes, kinds, locals}
use Rattle.rules.specs.Breach.{Sized, preamble}
use Rattle.rules.proofs.Ranks.{asked, Kept, none-asked, more, Stop}

-- no kind byte is first
pub data NoKind : List ℕ → Type 0 where
  none_left : NoKind []
  other : {b : ℕ} {rest : List ℕ} → ((k : Kind) → b ≡ kind_byte k → ⊥) → NoKind (b ∷ rest)

pub kinds-part : (ks ks' : List Kind) (t t' : List ℕ) → NoKind t → NoKind t' → map kind_byte ks ++ t ≡ map kind_byte ks' ++ t' → (ks ≡ ks') × (t ≡ t')
kinds-part [] [] t t' n n' e = (refl, e)
kinds-part [] (k ∷ ks') [] t' n n' e = absurd (let z : ◌≡◌ {A = ℕ} 0 1 = cc in omega arith)
kinds-part [] (k ∷ ks') (b ∷ t) t' (other f) n' e = absurd (f k (cc))
kinds-part (k ∷ ks) [] t [] n n' e = absurd (let z : ◌≡◌ {A = ℕ} 0 1 = cc in omega arith)
kinds-part (k ∷ ks) [] t (b ∷ t') n (other f) e = absurd (f k (cc))
kinds-part (k ∷ ks) (k' ∷ ks') t t' n n' e =
    let same : kind_byte k ≡ kind_byte k' = cc in
    let deeper = kinds-part ks ks' t t' n n' (cc) in
    (ap₂ ◌∷◌ (kind-once same) deeper.0, deeper.1)

module _ (s : List ℕ) where
  abbrev pub HeadAsked : ℕ → Type 0
  HeadAsked =
      asked (
      (length s ≤ file_limit)
      ∷ (8 ≤ length s)
      ∷ ((rest : List ℕ) × (s ≡ mark ++ rest))
      ∷ ((v : ℕ) × (rest : List ℕ) × Version v × (s ≡ preamble v ++ rest))
      ∷ ((v p : ℕ) (rest : List ℕ) → s ≡ preamble v ++ p ∷ rest → p ≤ parameter_limit)
      ∷ ((v p l : ℕ) (rest : List ℕ) → s ≡ preamble v ++ p ∷ l ∷ rest → l ≤ local_limit)
      ∷ ((v p l r : ℕ) (rest : List ℕ) → s ≡ preamble v ++ p ∷ l ∷ r ∷ rest → r ≤ result_limit)
      ∷ ((v p l r : ℕ) (ks : List Kind) (t : List ℕ) → s ≡ preamble v ++ p ∷ l ∷ r ∷ map kind_byte ks ++ t → NoKind t → p + l + r ≤ length ks)
      ∷ [])

  pub too_long : file_limit < length s → Stop HeadAsked 0
  too_long g = record { kept = none-asked HeadAsked; broken = λ q. omega arith }

  pub a-stub : length s < 8 → Stop HeadAsked 1
  a-stub g = record { kept = more HeadAsked 0 (none-asked HeadAsked) (omega arith); broken = λ q. omega arith }

  module _ (sized : Sized s) where
    sized-kept : Kept HeadAsked 2
    sized-kept = more HeadAsked 1 (more HeadAsked 0 (none-asked HeadAsked) sized.most) sized.least

    pub no-mark : ((rest : List ℕ) → s ≡ mark ++ rest → ⊥) → Stop HeadAsked 2
    no-mark f = record { kept = sized-kept; broken = λ q. f q.0 q.1 }

    marked-kept : (rest : List ℕ) → s ≡ mark ++ rest → Kept HeadAsked 3
    marked-kept rest marked = more HeadAsked 2 sized-kept (rest, marked)

    pub no-version : (rest : List ℕ) → s ≡ mark ++ rest → ((v : ℕ) (more : List ℕ) → Version v → s ≡ preamble v ++ more → ⊥) → Stop HeadAsked 3
    no-version rest marked f = record { kept = marked-kept rest marked; broken = λ q. f q.0 q.1 q.2 q.3 }

    module _ (v : ℕ) (is : Version v) where
      versioned-kept : (rest : List ℕ) → s ≡ preamble v ++ rest → Kept HeadAsked 4
      versioned-kept rest here = more HeadAsked 3 (marked-kept (version_bytes v ++ rest) here) (v, rest, is, here)

      pub many-parameters : (p : ℕ) (rest : List ℕ) → s ≡ preamble v ++ p ∷ rest → parameter_limit < p → Stop HeadAsked 4
      many-parameters p rest here g = record { kept = versioned-kept (p ∷ rest) here; broken = λ q. let small = q v p rest here in omega arith }

      parameters-kept : (p : ℕ) (rest : List ℕ) → s ≡ preamble v ++ p ∷ rest → p ≤ parameter_limit → Kept HeadAsked 5
      parameters-kept p rest here few =
          more HeadAsked 4 (versioned-kept (p ∷ rest) here) (λ v' p' rest' e. let same : p ≡ p' = cc (here, e) in omega (arith, same, few))

      pub many-further : (p l : ℕ) (rest : List ℕ) → s ≡ preamble v ++ p ∷ l ∷ rest → p ≤ parameter_limit → local_limit < l → Stop HeadAsked 5
      many-further p l rest here few g = record { kept = parameters-kept p (l ∷ rest) here few; broken = λ q. let small = q v p l rest here in omega arith }

      further-kept : (p l : ℕ) (rest : List ℕ) → s ≡ preamble v ++ p ∷ l ∷ rest → p ≤ parameter_limit → l ≤ local_limit → Kept HeadAsked 6
      further-kept p l rest here few few-l =
          more HeadAsked 5 (parameters-kept p (l ∷ rest) here few) (λ v' p' l' rest' e. let same : l ≡ l' = cc (here, e) in omega (arith, same, few-l))

      pub many-results : (p l r : ℕ) (rest : List ℕ) → s ≡ preamble v ++ p ∷ l ∷ r ∷ rest → p ≤ parameter_limit → l ≤ local_limit → result_limit < r
          → Stop HeadAsked 6
      many-results p l r rest here few few-l g =
          record { kept = further-kept p l (r ∷ rest) here few few-l; broken = λ q. let small = q v p l r rest here in omega arith }

      counts-kept : (p l r : ℕ) (rest : List ℕ) → s ≡ preamble v ++ p ∷ l ∷ r ∷ rest → Few p l r → Kept HeadAsked 7
      counts-kept p l r rest here few =
          more HeadAsked 6
          (further-kept p l (r ∷ rest) here few.parameters few.further)
          (λ v' p' l' r' rest' e. let same : r ≡ r' = cc (here, e) in omega (arith, same, few.results))

      pub bad-kinds : (p l r : ℕ) (ks : List Kind) (t : List ℕ) → s ≡ preamble v ++ p ∷ l ∷ r ∷ map kind_byte ks ++ t → Few p l r → NoKind t
          → length ks < p + l + r
          → Stop HeadAsked 7
      bad-kinds p l r ks t here few n g =
          record { kept = counts-kept p l r (map kind_byte ks ++ t) here few; broken = λ q. let enough = q v p l r ks t here n in omega arith }

-- as many kinds stand there as are declared
covers : (xs ks : List Kind) (b t : List ℕ) → NoKind t → map kind_byte xs ++ b ≡ map kind_byte ks ++ t → length xs ≤ length ks
covers [] ks b t n e = omega arith
covers (x ∷ xs) [] b [] n e = absurd (let z : ◌≡◌ {A = ℕ} 0 1 = cc in omega arith)
covers (x ∷ xs) [] b (y ∷ t) (other f) e = absurd (f x (cc))
covers (x ∷ xs) (k ∷ ks) b t n e = let deeper = covers xs ks b t n (cc) in omega arith

module _ {s : List ℕ} {h : Header} (d : Declares s h) where
  pub declared-sized : Sized s
  declared-sized = record { most = d.sized; least = omega (arith, ap length d.bytes) }

  -- a header that is declared keeps every rule of the header
  pub whole-header : Stop (HeadAsked s) 8
  whole-header =
      record {
        kept =
            more (HeadAsked s) 7 (counts-kept s declared-sized h.version d.versioned (length h.parameters) (length h.further)
            (length h.results) (map kind_byte (kinds h) ++ d.body) d.bytes d.few) all_kinds;
        broken = λ q. q;
      }
    where
      all_kinds : HeadAsked s 7
      all_kinds v p l r ks t e n =
          let ep : length h.parameters ≡ p = cc (d.bytes, e) in
          let el : length h.further ≡ l = cc (d.bytes, e) in
          let er : length h.results ≡ r = cc (d.bytes, e) in
          let rest : map kind_byte (kinds h) ++ d.body ≡ map kind_byte ks ++ t = cc (d.bytes, e) in
          omega (arith, ep, el, er, covers (kinds h) ks d.body t n rest, length-append (locals h) h.results, length-append h.parameters h.further)
