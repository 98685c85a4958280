use Rattle.std.proofs.Common.{◌++◌, ◌∷◌, [], sym, ap, ◌∙◌}
use Rattle.mdp_reports.specs.Flat.{place_to, places_to}
use Rattle.mdp_reports.proofs.Flatting.{places_to-push}
use Rattle.mdp_reports.proofs.reports.widen.Goals as goal

pub returns-in_ok-push-in-Some-Event : goal.returns-in_ok-push-in-Some-Event
returns-in_ok-push-in-Some-Event g c =
    c.in_ok-push-in-Some-Event.ensures.items ∙ ap (λ m. c.pop.new.self.items ++ place_to c.args.to m ∷ []) (sym c.in-Some-Event.field-0-is)
    ∙ sym (ap (places_to c.args.to) c.in-Some-Event.ensures.items ∙ places_to-push c.args.to _ _)

pub returns-in_ok-push-in-Some-Jump : goal.returns-in_ok-push-in-Some-Jump
returns-in_ok-push-in-Some-Jump g c =
    c.in_ok-push-in-Some-Jump.ensures.items ∙ ap (λ m. c.pop.new.self.items ++ place_to c.args.to m ∷ []) (sym c.in-Some-Jump.field-0-is)
    ∙ sym (ap (places_to c.args.to) c.in-Some-Jump.ensures.items ∙ places_to-push c.args.to _ _)
