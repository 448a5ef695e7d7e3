-- The number of words that follow is the one of the request that the words are.
use mathlib.Core.Path.{◌≡◌, ap, ◌∙◌}
use native.Mathlib.Omega.{arith}
use lib.ListN.{drop}
use Rattle.std.proofs.lemmas.Bool.Decides.{nat_tests}
use Rattle.definition.specs.Request.{request, following_length, is_miscounted}
use Rattle.request.proofs.is_miscounted.Goals as goal

pub returns : goal.returns
unfolding is_miscounted
returns c = λ ws same count.
    let n : c.following_length.result ≡ following_length (request ws) = c.following_length.ensures.0 (drop 4 ws) ∙ ap following_length same in
    rw (← n, count) (grind (arith, nat_tests))
