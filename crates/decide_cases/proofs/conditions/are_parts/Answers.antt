use Rattle.std.proofs.Common.{rules}
use Rattle.decide_cases.proofs.conditions.are_parts.Goals as goal

pub returns : goal.returns
returns c = λ yes. record {
  requests = λ k d k_in. (c.are_requests.ensures.each yes k d k_in).0;
  excluded = λ k d k_in. (c.are_requests.ensures.each yes k d k_in).1;
  low_count = search rules;
  var_count = search rules;
  ordered = search rules;
  priced = search rules;
  named = search rules;
  each_named = search rules;
  words = search rules;
  request_count = c.are_requests.ensures.few yes;
}
