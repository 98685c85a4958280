use Rattle.std.proofs.Common.{◌≡◌, ◌∙◌, ap, ap₂, true}
use Rattle.std.proofs.lemmas.Result.{IfOk-weaker}
use Rattle.clap.specs.Words.{App, app_of, with_rule}
use Rattle.mdp_handler.specs.CommandLine.{plain}
use Rattle.mdp_handler.proofs.settings.command.Goals as goal

pub returns : goal.returns
returns c =
    let named : app_of c.after_help.result ≡ plain = rw (c.after_help.ensures, c.about.ensures, c.version.ensures) (ap (λ (app : App). record app { top = record app.top { has_version = true } }) c.new.ensures.app) in
    let first = c.in_ok-arg.ensures.shape c.window_arg.ensures.own ∙ ap₂ with_rule named c.window_arg.ensures.rule in
    let second = c.in_ok-arg-2.ensures.shape c.workers_arg.ensures.own ∙ ap₂ with_rule first c.workers_arg.ensures.rule in
    let third = c.in_ok-arg-3.ensures.shape c.in_order_arg.ensures.own ∙ ap₂ with_rule second c.in_order_arg.ensures.rule in
    let fourth = c.in_ok-arg-4.ensures.shape c.live_arg.ensures.own ∙ ap₂ with_rule third c.live_arg.ensures.rule in
    let fifth = c.in_ok-arg-5.ensures.shape c.join_arg.ensures.own ∙ ap₂ with_rule fourth c.join_arg.ensures.rule in
    IfOk-weaker c.arg-6.result _ _ (λ command added. added.shape c.channel_arg.ensures.own ∙ ap₂ with_rule fifth c.channel_arg.ensures.rule) c.arg-6.ensures
