-- For those who list line by line: a loop that follows the walk, with what is known in two arrays and a state, and each line in another array.
use Prim.Native.Nat.{ℕ, ◌≤◌, ◌<◌}
use mathlib.Core.Path.{◌≡◌, refl, sym, ap, subst, ◌∙◌}
use mathlib.Core.Bool.{false}
use mathlib.Core.List.{List, [], ◌∷◌}
use mathlib.Core.Logic.{◌⊎◌, inl, inr}
use native.Mathlib.Omega.{arith}
use lib.ListN.{length, take, drop, length-append}
use lib.Seq.{take_at}
use Rattle.limits.specs.Limits.{stack_limit, nest_limit}
use Rattle.instr.proofs.Ranges.{stands-some, stands-inside}
use Rattle.rules.specs.Typing.{opened}
use Rattle.rules.specs.Strip.{Reaches, front, Valid}
use Rattle.rules.proofs.Onward.{declared}
use Rattle.checker.specs.declared.turns.State.{State}
use Rattle.checker.specs.Walk.{start_of, outset, strip, Walks, Goes, over, on}
use Rattle.checker.proofs.Starts.{starts-at}
use Rattle.listing.specs.Walk.{longest, line_of, Walked}
use Rattle.listing.specs.declared.Next.{Next}

-- the walk stands at a place, or is over
pub record Follows (s kinds blocks text : List ℕ) (state : State) (at : ℕ) : Type 0 where
  pub walk : (at ≡ length s) ⊎ Walks s at kinds blocks state
  pub kinds_long : length kinds ≡ stack_limit
  pub blocks_long : length blocks ≡ nest_limit
  pub room : length text ≡ longest

-- from the first instruction, with nothing on the stack and no block open
pub follow-begins : {s : List ℕ} → Valid s → {at : ℕ} {state : State} (kinds blocks text : List ℕ) → at ≡ start_of s → state ≡ outset
    → length kinds ≡ stack_limit → length blocks ≡ nest_limit
    → length text ≡ longest → Follows s kinds blocks text state at
follow-begins {s} v {at} kinds blocks text e begins k b room =
    let d = declared v.reached in
    subst (λ (x : State). Follows s kinds blocks text x at) (sym begins)
    (record {
      walk = inr (record {
        valid = v;
        frames = opened false v.header.results ∷ [];
        reached = subst (λ (p : ℕ). Reaches s v.header p (opened false v.header.results ∷ [])) (sym (starts-at e v.header d)) (front d);
        framed = record {
          holds = record { many = refl; rest = kinds; here = refl };
          nested = strip refl refl;
          within = record { blocks = omega arith; values = omega arith };
        };
        kinds_long = k;
        blocks_long = b;
      });
      kinds_long = k;
      blocks_long = b;
      room = room;
    })

goes_on : {s : List ℕ} {kinds blocks kinds' blocks' : List ℕ} {q : ℕ} {state state' : State} → Goes s q kinds blocks state kinds' blocks' state'
    → (q ≡ length s) ⊎ Walks s q kinds' blocks' state'
goes_on (over e) = inl e
goes_on (on w kept left) = inr w

module _ {s kinds blocks text : List ℕ} {state : State} {at : ℕ} (p : Follows s kinds blocks text state at) (l : at < length s) where
  pub follow-walks : Walks s at kinds blocks state
  follow-walks = by p.walk
    where
      by : (at ≡ length s) ⊎ Walks s at kinds blocks state → Walks s at kinds blocks state
      by (inl e) = absurd (let z : ⊥ = omega (arith, e) in z)
      by (inr w) = w

  module _ {r : Next} {kinds' blocks' text' : List ℕ} (w : Walked s at kinds blocks state text r kinds' blocks' text') (kept : length text' ≡ length text) where
    -- the line is in the text, from its front on
    pub line-fits : r.len ≤ length text'
    line-fits = omega (arith, ap length w.bytes, length-append (line_of w.steps) (drop r.len text), w.len)

    pub no_longer : r.len ≤ longest
    no_longer = omega (arith, line-fits, kept, p.room)

    pub line-is : take r.len text' ≡ line_of w.steps
    line-is = ap (take r.len) w.bytes ∙ take_at (line_of w.steps) (drop r.len text) r.len (sym w.len)

    pub onward : (at < r.at) × (r.at ≤ length s)
    onward = (omega (arith, w.at, stands-some w.steps.stands), omega (arith, w.at, stands-inside w.steps.stands))

    pub follow-on : length kinds' ≡ length kinds → length blocks' ≡ length blocks → Follows s kinds' blocks' text' r.state r.at
    follow-on k b =
        record {
          walk = subst (λ (q : ℕ). (q ≡ length s) ⊎ Walks s q kinds' blocks' r.state) (sym w.at) (goes_on w.steps.goes);
          kinds_long = k ∙ p.kinds_long;
          blocks_long = b ∙ p.blocks_long;
          room = kept ∙ p.room;
        }
