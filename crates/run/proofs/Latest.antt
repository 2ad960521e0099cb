-- An instruction that a strip's version has stands there by the latest version too: after the check the version need not be asked.
use Prim.Native.Nat.{ℕ}
use mathlib.Core.Path.{◌≡◌, ap, sym, ◌∙◌, subst}
use mathlib.Core.List.{List}
use Rattle.opcode.specs.Table.{Code, Row, latest}
use Rattle.opcode.proofs.Versions.{row-latest}
use Rattle.instr.specs.declared.Instr.{Instr}
use Rattle.instr.specs.Layout.{Field, Writes, InOrder, Allowed, row_in, bare, kept_of, head_of}
use Rattle.instr.proofs.Encodes.{same_layout}
use Rattle.rules.specs.Strip.{Reads}

module _ {ver : ℕ} {s : List ℕ} {p n : ℕ} {i : Instr} {c : Code} (r : Reads ver s p i c n) where
  same_row : row_in latest i ≡ row_in ver i
  same_row = row-latest ver i.first i.number r.does ∙ sym r.does

  same-bare : bare latest i ≡ bare ver i
  same-bare = ap (λ (x : Row). kept_of x (head_of i) i) same_row

  pub by-latest : Reads latest s p i c n
  by-latest =
      record {
        stands =
            record {
              typed = r.stands.typed;
              allowed = subst (λ (x : Row). Allowed x i) (sym same_row) r.stands.allowed;
              lacking = same-bare ∙ r.stands.lacking;
              bytes = r.stands.bytes;
              rest = r.stands.rest;
              here = r.stands.here;
              long = r.stands.long;
              fields = subst (λ (fs : List Field). InOrder Writes fs r.stands.bytes) (sym (same_layout ver i r.stands.allowed)) r.stands.fields;
            };
        does = row-latest ver i.first i.number r.does;
      }
