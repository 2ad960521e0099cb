-- What the run asks of an instruction: what decoding answers, the id by which the table knows it, and what the table says of it.
use Rattle.opcode.specs.Number.{id_of, row_of}
use Rattle.opcode.specs.Entry.{entry_of}
use Rattle.instr.specs.declared.Decoded.{Decoded}
use Rattle.instr.specs.declared.Fetched.{Fetched}

abbrev pub fetch_of : Decoded → Fetched
fetch_of d =
    record {
      id = id_of d.instr.first d.instr.number;
      entry = entry_of (row_of (id_of d.instr.first d.instr.number));
      decoded = d;
    }
