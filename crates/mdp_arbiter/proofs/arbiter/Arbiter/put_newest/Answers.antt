use Rattle.std.proofs.Common.{◌≡◌, ◌<◌, ◌∙◌, true, length, get_or, set, arith, refl, ap, subst, sym}
use Rattle.std.specs.Prelude.{Option, Some, slice_get}
use Rattle.std.proofs.lemmas.Option.{slice_get_within, slice_get_read}
use Rattle.std.proofs.lemmas.List.{length-set}
use Rattle.mdp_templates.specs.Snapshot.{SnapshotContent}
use Rattle.mdp_arbiter.specs.Accepted.{is_newer}
use Rattle.mdp_arbiter.specs.Arbiter.{View}
use Rattle.mdp_arbiter.specs.Bases.{bases_of}
use Rattle.mdp_arbiter.specs.Snapshots.{IsNewsAt}
use Rattle.mdp_arbiter.specs.declared.base.Base.{Base}
use Rattle.mdp_arbiter.proofs.Bases.{bases_kept}
use Rattle.mdp_arbiter.proofs.Fresh.{leads_renewed}
use Rattle.mdp_arbiter.proofs.Renewals.{newest_after-set}
use Rattle.mdp_arbiter.proofs.arbiter.Arbiter.put_newest.Goals as goal

pub index_mut-requires : goal.index_mut-requires
index_mut-requires g c =
    let news = subst (λ (v : View). IsNewsAt c.args.slot c.args.snapshot v) (sym c.self.view_is) c.requires in
    omega (arith, slice_get_within c.self.inside.newest.items c.args.slot news.held news.there)

pub index_mut-requires-2 : goal.index_mut-requires-2
index_mut-requires-2 g c =
    let news = subst (λ (v : View). IsNewsAt c.args.slot c.args.snapshot v) (sym c.self.view_is) c.requires in
    omega (arith, slice_get_within c.self.inside.slots c.args.slot c.args.snapshot.security news.at, c.self.invariant.9)

pub invariant_of-self : goal.invariant_of-self
invariant_of-self g c =
    let inside = c.self.inside in
    let slot = c.args.slot in
    let news = subst (λ (v : View). IsNewsAt c.args.slot c.args.snapshot v) (sym c.self.view_is) c.requires in
    let there : slice_get inside.newest.items slot ≡ Some news.held = news.there in
    let within : slot < length inside.newest.items = slice_get_within inside.newest.items slot news.held there in
    let was : c.replace-before.result ≡ get_or inside.newest.items slot c.replace-before.result =
    subst (λ (o : Option SnapshotContent). o ≡ get_or inside.newest.items slot o) (sym c.replace-before.ensures.value) c.index_mut.ensures.value in
    let here : slice_get inside.newest.items slot ≡ Some c.replace-before.result = slice_get_read inside.newest.items _ _ _ refl within was in
    let same : news.held ≡ c.replace-before.result = cc in
    let newer : is_newer c.replace-before.result c.args.snapshot ≡ true = rw (← same) news.newer in (
      c.self.invariant.0,
      c.self.invariant.1,
      c.self.invariant.2,
      c.self.invariant.3,
      c.self.invariant.4,
      c.self.invariant.5,
      c.self.invariant.6,
      c.self.invariant.7,
      length-set inside.newest.items slot c.replace-before.new.self ∙ c.self.invariant.8,
      length-set inside.bases.items slot c.keep.new.self ∙ c.self.invariant.9,
      c.self.invariant.10,
      rw c.replace-before.ensures.after (leads_renewed inside.front slot inside.newest.items c.replace-before.result c.args.snapshot was newer c.self.invariant.11),
    )

pub returns : goal.returns
returns g c =
    let inside = c.self.inside in
    let slot = c.args.slot in
    let news = subst (λ (v : View). IsNewsAt c.args.slot c.args.snapshot v) (sym c.self.view_is) c.requires in
    let was : c.replace-before.result ≡ get_or inside.newest.items slot c.replace-before.result =
    subst (λ (o : Option SnapshotContent). o ≡ get_or inside.newest.items slot o) (sym c.replace-before.ensures.value) c.index_mut.ensures.value in
    let kept : bases_of (set inside.newest.items slot (Some c.args.snapshot)) (set inside.bases.items slot c.keep.new.self) ≡ bases_of inside.newest.items inside.bases.items =
    ap (λ (b : Base). bases_of (set inside.newest.items slot (Some c.args.snapshot)) (set inside.bases.items slot b)) c.keep.ensures
    ∙ bases_kept inside.newest.items inside.bases.items slot (Some c.args.snapshot) c.replace-before.result c.index_mut-2.result.now was c.index_mut-2.ensures.value in
    let renewed = newest_after-set inside.slots c.args.snapshot inside.newest.items slot news.held news.at news.only news.there news.newer in
    rw (← c.self.view_is) (news.opened, (slot, news.held, news.at, news.there, news.newer), rw (renewed, c.replace-before.ensures.after, kept) refl)
