use Rattle.texml.proofs.program.run_words.Goals as goal

pub returns-in-Ok : goal.returns-in-Ok
returns-in-Ok g c =
    let words = c.deref.ensures.value in
    rw c.in-Ok.is (record {
      status = c.run.result;
      is = c.exit_code_of.ensures;
      meets = rw words at c.run.ensures.meets;
      files_cause = c.run.ensures.files_cause;
      out_cause = c.run.ensures.out_cause;
      late = rw words at c.run.ensures.late;
      page = rw words at c.run.ensures.page;
      document = rw words at c.run.ensures.document;
      lines = rw words at c.run.ensures.lines;
      words_fit = rw words at c.run.ensures.words;
      untouched = rw words at c.run.ensures.untouched;
      notes = c.run.ensures.notes;
      closed = c.run.ensures.closed;
      same = c.run.ensures.same;
      little = rw words at c.run.ensures.reads;
    })
