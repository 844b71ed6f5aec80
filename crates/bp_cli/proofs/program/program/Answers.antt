use Rattle.bp_cli.proofs.program.program.Goals as goal

pub returns : goal.returns
returns g c =
    record {
      opened = c.open_matter-opened.result;
      opens = c.open_matter-opened.ensures.opens;
      named = c.open_matter-opened.ensures.named;
      handed = c.run_over-ran.result.connection;
      ends = c.run_over-ran.ensures;
      closes = c.close.ensures;
    }
