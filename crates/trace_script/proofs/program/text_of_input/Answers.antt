use Rattle.trace_script.proofs.program.text_of_input.Goals as goal

pub returns-then-body-clause-fault : goal.returns-then-body-clause-fault
returns-then-body-clause-fault g c = c.body_line.ensures.fault (g.R.Read.remaining c.args.input.now)

pub returns-clause-text : goal.returns-clause-text
returns-clause-text g c =
    let parsed = c.in-Ok.ensures.exact in
    rw c.if-body.false (record {
      bytes = c.in_ok-text.text.items;
      given = c.in_ok-text.ensures.text;
      script = parsed.0;
      read = rw c.as_slice.ensures.value at parsed.1;
      is = c.in_ok-text_of_script.ensures parsed.0 parsed.2;
    })
