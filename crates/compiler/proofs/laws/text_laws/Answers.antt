use Rattle.compiler.proofs.OneAnswer.{not_both, not_both_as, one_program, one_refusal, one_refusal_as}
use Rattle.compiler.proofs.laws.text_laws.Goals as goal

pub returns-clause-one_program : goal.returns-clause-one_program
returns-clause-one_program c =
    one_program record {
      one = c.token_laws.ensures.one;
      fault = c.fault_laws.ensures.one;
      either = c.fault_laws.ensures.no_tokens;
      tree = c.one_tree.ensures;
    }

pub returns-clause-one_refusal : goal.returns-clause-one_refusal
returns-clause-one_refusal c =
    one_refusal record {
      one = c.token_laws.ensures.one;
      fault = c.fault_laws.ensures.one;
      either = c.fault_laws.ensures.no_tokens;
      tree = c.one_tree.ensures;
    }

pub returns-clause-not_both : goal.returns-clause-not_both
returns-clause-not_both c =
    not_both record {
      one = c.token_laws.ensures.one;
      fault = c.fault_laws.ensures.one;
      either = c.fault_laws.ensures.no_tokens;
      tree = c.one_tree.ensures;
    }

pub returns-clause-one_refusal_as : goal.returns-clause-one_refusal_as
returns-clause-one_refusal_as c =
    one_refusal_as record {
      one = c.token_laws.ensures.one;
      fault = c.fault_laws.ensures.one;
      either = c.fault_laws.ensures.no_tokens;
      tree = c.one_tree.ensures;
    }

pub returns-clause-not_both_as : goal.returns-clause-not_both_as
returns-clause-not_both_as c =
    not_both_as record {
      one = c.token_laws.ensures.one;
      fault = c.fault_laws.ensures.one;
      either = c.fault_laws.ensures.no_tokens;
      tree = c.one_tree.ensures;
    }
