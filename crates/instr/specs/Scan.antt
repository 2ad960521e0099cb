-- What the check asks of an instruction: whether it can be decoded, what the table says of it, the one immediate that the rules read, and its
-- length.
use Rattle.std.specs.Prelude.{ℕ, cond, eqb}
use Rattle.opcode.specs.Number.{id_of, row_of}
use Rattle.opcode.specs.Entry.{entry_of}
use Rattle.instr.specs.declared.Instr.{Instr}
use Rattle.instr.specs.declared.Decoded.{Decoded}
use Rattle.instr.specs.declared.Fetched.{Fetched}
use Rattle.instr.specs.declared.Scanned.{Scanned}

-- the index of a local or of a block, or a block type; 0 where there is none of these. No instruction has both, what it lacks is 0, and no
-- block type is 0
abbrev pub immediate_of : Instr → ℕ
immediate_of i = cond (eqb i.block 0) i.index i.block

abbrev pub scan_of : Decoded → Scanned
scan_of d =
    record {
      code = d.code;
      place = d.place;
      len = d.len;
      entry = entry_of (row_of (id_of d.instr.first d.instr.number));
      immediate = immediate_of d.instr;
    }

-- the same of an instruction that was fetched
abbrev pub summary_of : Fetched → Scanned
summary_of f =
    record {
      code = f.decoded.code;
      place = f.decoded.place;
      len = f.decoded.len;
      entry = f.entry;
      immediate = immediate_of f.decoded.instr;
    }
