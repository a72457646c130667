use Rattle.texml_token.proofs.Table.{extends_trans}
use Rattle.texml_assign.proofs.new_if.conditional_names.Goals as goal

pub returns-in_err-set_true-clause-grows : goal.returns-in_err-set_true-clause-grows
returns-in_err-set_true-clause-grows c = extends_trans _ _ _ c.in_ok-test.ensures.grows c.in_err-set_true.ensures.grows

pub returns-in_err-set_false-clause-grows : goal.returns-in_err-set_false-clause-grows
returns-in_err-set_false-clause-grows c = extends_trans _ _ _ (extends_trans _ _ _ c.in_ok-test.ensures.grows c.in_ok-set_true.ensures.grows) c.in_err-set_false.ensures.grows

pub returns-in_err-lets-clause-grows : goal.returns-in_err-lets-clause-grows
returns-in_err-lets-clause-grows c = extends_trans _ _ _ (extends_trans _ _ _ (extends_trans _ _ _ c.in_ok-test.ensures.grows c.in_ok-set_true.ensures.grows) c.in_ok-set_false.ensures.grows) c.in_err-lets.ensures.grows

pub returns-in_err-if_true-clause-grows : goal.returns-in_err-if_true-clause-grows
returns-in_err-if_true-clause-grows c = extends_trans _ _ _ (extends_trans _ _ _ (extends_trans _ _ _ (extends_trans _ _ _ c.in_ok-test.ensures.grows c.in_ok-set_true.ensures.grows) c.in_ok-set_false.ensures.grows) c.in_ok-lets.ensures.grows) c.in_err-if_true.ensures.grows

pub returns-in_err-if_false-clause-grows : goal.returns-in_err-if_false-clause-grows
returns-in_err-if_false-clause-grows c = extends_trans _ _ _ (extends_trans _ _ _ (extends_trans _ _ _ (extends_trans _ _ _ (extends_trans _ _ _ c.in_ok-test.ensures.grows c.in_ok-set_true.ensures.grows) c.in_ok-set_false.ensures.grows) c.in_ok-lets.ensures.grows) c.in_ok-if_true.ensures.grows) c.in_err-if_false.ensures.grows

pub returns-clause-grows : goal.returns-clause-grows
returns-clause-grows c = extends_trans _ _ _ (extends_trans _ _ _ (extends_trans _ _ _ (extends_trans _ _ _ (extends_trans _ _ _ c.in_ok-test.ensures.grows c.in_ok-set_true.ensures.grows) c.in_ok-set_false.ensures.grows) c.in_ok-lets.ensures.grows) c.in_ok-if_true.ensures.grows) c.in_ok-if_false.ensures.grows
