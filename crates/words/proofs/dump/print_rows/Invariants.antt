-- Wherever the loop is, the rows that are left lead from there to where all of them lead from the start.
use Rattle.std.proofs.Common.{◌≡◌, ◌-◌, ◌*◌, ◌/◌, length, drop}
use Rattle.report.specs.Page.{printed}
use Rattle.report.specs.Prints.{page_in}
use Rattle.words.specs.Dump.{row_bytes, rows_text}
use Rattle.words.proofs.dump.print_rows.Given as goal

abbrev pub invariant-loop-i : goal.invariant-loop-i
invariant-loop-i l =
    record {
      size : l.i-iterator.iter.size ≡ row_bytes;
      rest : l.i-iterator.iter.rest.now ≡ drop (l.i-iterator.count * row_bytes) l.array;
      slice : l.page.out.ghost_name ≡ l.initial.page.out.ghost_name;
      page : printed (page_in l.page) (rows_text l.array (length l.array / row_bytes - l.i-iterator.count) l.i-iterator.count)
          ≡ printed (page_in l.initial.page) (rows_text l.array (length l.array / row_bytes) 0);
    }
