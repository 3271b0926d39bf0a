-- `script_commands::copy_request` meets its contract. Assumes nothing.
use Rattle.script_commands.proofs.copy_request.Goals as goal

pub returns : goal.returns
returns c =
    λ i. record {
      fabric = c.byte-3.ensures i;
      endpoint = c.short-3.ensures i;
      mode = c.byte-4.ensures i;
      from = record { group = c.short.ensures i; scene = c.byte.ensures i };
      to = record { group = c.short-2.ensures i; scene = c.byte-2.ensures i };
    }
