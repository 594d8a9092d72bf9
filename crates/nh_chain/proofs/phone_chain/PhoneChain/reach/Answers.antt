use Rattle.std.proofs.{Common.◌∙◌, Common.ap, lemmas.List.Elements.All-push}
use Rattle.hmac_kdf.specs.Kdf.{IsKdfInput}
use Rattle.nh_chain.proofs.ReachFacts.{steps_reached, terms_reached}
use Rattle.nh_chain.proofs.phone_chain.PhoneChain.reach.Goals as goal

pub returns-clause-terms : goal.returns-clause-terms
returns-clause-terms c =
    terms_reached c.args.self.now c.climb-nh.new.self c.args.active.now c.args.ncc c.args.cell.now.pci
    c.args.cell.now.earfcn c.star_from-star.result.0 (record {
      steps = c.steps_to-steps.result;
      nh = c.climb-nh.result.0;
      counted = rw (← c.self.view_is) c.steps_to-steps.ensures.steps;
      climbs = rw (← c.self.view_is) c.climb-nh.ensures.chain;
      reaches = rw (← c.self.view_is) c.climb-nh.ensures.nh;
      derives = c.star_from-star.ensures.star;
    })

pub returns-clause-steps : goal.returns-clause-steps
returns-clause-steps c =
    steps_reached c.args.self.now c.args.active.now c.args.ncc c.args.cell.now c.push.new.self.items c.star_from-star.result.1 (record {
      steps = c.steps_to-steps.result;
      nh = c.climb-nh.result.0;
      counted = rw (← c.self.view_is) c.steps_to-steps.ensures.steps;
      reaches = rw (← c.self.view_is) c.climb-nh.ensures.nh;
      nhs = c.climb-nh.result.1.items;
      star = c.star_from-star.result.2;
      climbs = rw (← c.self.view_is) c.climb-nh.ensures.made;
      derives = c.star_from-star.ensures.derived;
      lists = c.push.ensures.items;
      goes = c.star_from-star.ensures.way;
    })

pub returns-clause-inputs : goal.returns-clause-inputs
returns-clause-inputs c =
    rw c.push.ensures.items (All-push (λ d. IsKdfInput d.input) c.climb-nh.result.1.items c.star_from-star.result.2
    c.climb-nh.ensures.inputs c.star_from-star.ensures.input)

pub returns-clause-ncc : goal.returns-clause-ncc
returns-clause-ncc c = ap (λ chain. chain.number) c.climb-nh.ensures.chain ∙ c.steps_to-steps.ensures.there
