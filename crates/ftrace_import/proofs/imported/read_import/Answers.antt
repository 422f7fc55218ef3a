use Rattle.ftrace_import.proofs.imported.read_import.Goals as goal

-- An import that was read missed nothing, and no read of it failed.
pub returns-clause-cause : goal.returns-clause-cause
returns-clause-cause g c =
    let cause = c.in_ok-gathering.ensures.cause in
    record {
      faults_later = cause.faults_later;
      absent_later = cause.absent_later;
      failed = λ is. absurd (cc is);
      missed = λ is. absurd (cc is);
      faults_same = λ _. cause.faults_same (λ is. absurd (cc is));
      absent_same = λ _. cause.absent_same (λ is. absurd (cc is));
    }
