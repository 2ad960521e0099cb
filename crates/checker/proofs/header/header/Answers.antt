-- The header's questions, in their order.
use Prim.Native.Nat.{ℕ}
use mathlib.Core.Path.{◌≡◌, sym, ◌∙◌}
use mathlib.Core.Logic.{inl, inr}
use native.Mathlib.Omega.{arith}
use lib.ListN.{get_or}
use Rattle.rules.specs.Breach.{Sized, long, stub, unmarked, other_version, parameters, further, results}
use Rattle.checker.proofs.Fronts.{broken, mark-told, marked, fronted, version-byte, headed-kinds}
use Rattle.checker.proofs.header.header.Goals as goal

pub returns-then-strip-gt-FILE : goal.returns-then-strip-gt-FILE
returns-then-strip-gt-FILE c = broken c.refuse.ensures (long c.if-strip-gt-FILE.true)

pub returns-then-strip-lt8 : goal.returns-then-strip-lt8
returns-then-strip-lt8 c = broken c.refuse-then-strip-lt8.ensures (stub c.if-strip-lt8.true)

pub returns-then-not-starts_with : goal.returns-then-not-starts_with
returns-then-not-starts_with c =
    let sized : Sized c.args.strip.now = record { most = c.if-strip-gt-FILE.false; least = c.if-strip-lt8.false } in
    let told = mark-told c.args.strip.now _ c.starts_with.ensures.value in
    broken c.refuse-then-not-starts_with.ensures (unmarked sized (λ rest e. let marked = told.1 rest e in let not_so = c.if-not-starts_with.true in absurd (let z : ◌≡◌ {A = ℕ} 0 1 = cc in omega arith)))

pub returns-then-not-is_known : goal.returns-then-not-is_known
returns-then-not-is_known c =
    let s = c.args.strip.now in
    let sized : Sized s = record { most = c.if-strip-gt-FILE.false; least = c.if-strip-lt8.false } in
    broken c.refuse-then-not-is_known.ensures
    (other_version _ sized (marked s sized.least ((mark-told s _ c.starts_with.ensures.value).0 c.if-not-starts_with.false))
    (version-byte s sized.least ((mark-told s _ c.starts_with.ensures.value).0 c.if-not-starts_with.false)
    (inl (λ v. let known = sym c.is_known.ensures ∙ c.if-not-is_known.true in let z : ◌≡◌ {A = ℕ} 0 1 = cc in omega arith))))

pub returns-then-strip-ne0 : goal.returns-then-strip-ne0
returns-then-strip-ne0 c =
    let s = c.args.strip.now in
    let sized : Sized s = record { most = c.if-strip-gt-FILE.false; least = c.if-strip-lt8.false } in
    broken c.refuse-then-strip-ne0.ensures
    (other_version _ sized (marked s sized.least ((mark-told s _ c.starts_with.ensures.value).0 c.if-not-starts_with.false))
    (version-byte s sized.least ((mark-told s _ c.starts_with.ensures.value).0 c.if-not-starts_with.false) (inr c.if-strip-ne0.true)))

pub returns-then-p-gt-PARAMETERS : goal.returns-then-p-gt-PARAMETERS
returns-then-p-gt-PARAMETERS c =
    let s = c.args.strip.now in
    let sized : Sized s = record { most = c.if-strip-gt-FILE.false; least = c.if-strip-lt8.false } in
    broken c.refuse-then-p-gt-PARAMETERS.ensures
    (parameters _ _ _ sized (sym c.is_known.ensures ∙ c.if-not-is_known.false)
    (fronted s sized.least ((mark-told s _ c.starts_with.ensures.value).0 c.if-not-starts_with.false) c.if-strip-ne0.false) c.if-p-gt-PARAMETERS.true)

pub returns-then-l-gt-LOCALS : goal.returns-then-l-gt-LOCALS
returns-then-l-gt-LOCALS c =
    let s = c.args.strip.now in
    let sized : Sized s = record { most = c.if-strip-gt-FILE.false; least = c.if-strip-lt8.false } in
    broken c.refuse-then-l-gt-LOCALS.ensures
    (further _ _ _ _ sized (sym c.is_known.ensures ∙ c.if-not-is_known.false)
    (fronted s sized.least ((mark-told s _ c.starts_with.ensures.value).0 c.if-not-starts_with.false) c.if-strip-ne0.false) c.if-p-gt-PARAMETERS.false c.if-l-gt-LOCALS.true)

pub returns-then-r-gt-RESULTS : goal.returns-then-r-gt-RESULTS
returns-then-r-gt-RESULTS c =
    let s = c.args.strip.now in
    let sized : Sized s = record { most = c.if-strip-gt-FILE.false; least = c.if-strip-lt8.false } in
    broken c.refuse-then-r-gt-RESULTS.ensures
    (results _ _ _ _ _ sized (sym c.is_known.ensures ∙ c.if-not-is_known.false)
    (fronted s sized.least ((mark-told s _ c.starts_with.ensures.value).0 c.if-not-starts_with.false) c.if-strip-ne0.false) c.if-p-gt-PARAMETERS.false c.if-l-gt-LOCALS.false
    c.if-r-gt-RESULTS.true)

pub returns : goal.returns
returns c =
    let s = c.args.strip.now in
    let sized : Sized s = record { most = c.if-strip-gt-FILE.false; least = c.if-strip-lt8.false } in
    headed-kinds sized (get_or s 3 0) (get_or s 5 0) (get_or s 6 0) (get_or s 7 0)
    (sym c.is_known.ensures ∙ c.if-not-is_known.false)
    (record { parameters = c.if-p-gt-PARAMETERS.false; further = c.if-l-gt-LOCALS.false; results = c.if-r-gt-RESULTS.false })
    (fronted s sized.least ((mark-told s _ c.starts_with.ensures.value).0 c.if-not-starts_with.false) c.if-strip-ne0.false)
    c.kinds.ensures
