-- in the present network each link is fixed
use Rattle.std.proofs.Common.{refl, sym}
use Rattle.path_requests.specs.Resolving.{present_asked}
use Rattle.path_requests.proofs.PresentLaws.{fixed}
use Rattle.path_requests.proofs.costless.first_at_present.Goals as goal

pub returns : goal.returns
returns c = λ d. c.first_lacking.ensures (present_asked c.args.request_file.now) d refl
    (λ i link at. sym (fixed c.args.request_file.now d link))
