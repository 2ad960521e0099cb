-- The product is at most 2^30, so rounded it fits 32 bits; what each call is handed is read back from its bits.
use Rattle.std.proofs.Common.{ℕ, ℤ, ◌≡◌, ◌∙◌, sym, subst, lt_of_le_of_lt, arith, pos, ◌+ℤ◌, ◌*ℤ◌, SFits, to_z, of_z, w16, w32}
use lib.Signed.{shr_z, mag_shr}
use mir.ValLaws.{to_z-of_z}
use Rattle.scalar.specs.Scalar.{iq15mulrsat}
use Rattle.scalar.proofs.Laws.Twos.{crossed, round-fits, signed}
use Rattle.scalar.proofs.lane16.q15mulr_sat_s16.Goals as goal

rounded : (x y : ℕ) → SFits w32 (to_z w16 x *ℤ to_z w16 y +ℤ pos 16384)
rounded x y = round-fits w16 w32 (to_z w16 x) (to_z w16 y) 16384 (signed w16 x) (signed w16 y) (omega arith)

pub overflow_add-product_s : goal.overflow_add-product_s
overflow_add-product_s c =
    let e : to_z w32 (of_z w32 c.product_s.result) ≡ to_z w16 c.args.x *ℤ to_z w16 c.args.y =
    crossed w32 c.product_s.result c.product_s.type_inv ∙ c.product_s.ensures
    in
    subst (λ (z : ℤ). SFits w32 (z +ℤ pos 16384)) (sym e) (rounded c.args.x c.args.y)

pub returns : goal.returns
unfolding iq15mulrsat
returns c =
    let sum = to_z w16 c.args.x *ℤ to_z w16 c.args.y +ℤ pos 16384 in
    let fits : SFits w32 sum = rounded c.args.x c.args.y in
    cc (
      c.product_s.ensures,
      crossed w32 c.product_s.result c.product_s.type_inv,
      to_z-of_z w32 sum fits,
      crossed w32 (shr_z sum 32768) (lt_of_le_of_lt (mag_shr sum 32768) fits.sfits),
    )
