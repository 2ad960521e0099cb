-- What was decoded has the id that was looked up.
use mathlib.Core.Path.{refl, sym, ap, subst, ◌∙◌}
use Rattle.opcode.specs.Entry.{entry_of}
use Rattle.instr.specs.Fetch.{fetch_of}
use Rattle.instr.proofs.Named.{Named, body-named, fetched}
use Rattle.instr.proofs.decoding.found.Goals as goal

pub returns : goal.returns
returns c =
    let o = c.in_ok-code.ensures in
    let is = c.in_ok-whole.ensures.is _ (c.entry-entry.ensures ∙ ap entry_of c.id_in-id.ensures) in
    let named = subst (Named _) (sym is) (body-named _ _ _ _ _ _ _ o.first c.id_in-id.ensures) in
    fetched _ _ _ (named.told refl) c.entry-entry.ensures ∙ ap fetch_of (is ∙ sym o.rest)
