-- The ends of an open socket are those that its caller's last moment of it left, each where it was.
use Rattle.std.specs.Prelude.{◌≡◌, List, [], ◌∷◌, All, map, refl}
use Rattle.std.proofs.Common.{ap, ◌∙◌}
use Rattle.std.proofs.lemmas.List.Elements.{All-nil, All-head, All-tail, All-weaker}
use Rattle.zq_base.specs.declared.ids.EndId.{EndId}
use Rattle.spec_control.specs.Place.{Place}
use Rattle.spec_control.specs.Control.{Control, begun, place_of, ends_of}
use Rattle.spec_control.specs.ControlRun.{after_all}
use Rattle.spec_control.specs.Moments.{left_after}
use Rattle.control_laws.proofs.RootLemmas.{begun_kept}
use Rattle.control_laws.proofs.AttachedOnceLemmas.{IsOld}
use Rattle.control_laws.proofs.MomentLemmas.{AsLeft, AreLeft as AreLeftSo, left_snoc}
use Rattle.spec_run.specs.OpenSocket.{SockEnd}
use Rattle.socket_laws.specs.Open.{moments_of}
use Rattle.socket_laws.specs.OpenEnds.{OpenEndsAreLeft}
use Rattle.socket_laws.proofs.OpenLemmas.{none_some, had, above}

-- each of these ends with where it is
pub same_told : (f g : EndId → Place) (es : List EndId) → All (λ e. f e ≡ g e) es →
    map (λ e. let x : SockEnd = record { end = e; place = f e } in x) es ≡ map (λ e. let x : SockEnd = record { end = e; place = g e } in x) es
same_told f g [] all = refl
same_told f g (e ∷ es) all =
    ap (λ (p : Place). let x : SockEnd = record { end = e; place = p } in x ∷ map (λ e. let x : SockEnd = record { end = e; place = f e } in x) es) (All-head (λ e. f e ≡ g e) e es all)
    ∙ ap (λ (xs : List SockEnd). let x : SockEnd = record { end = e; place = g e } in x ∷ xs) (same_told f g es (All-tail (λ e. f e ≡ g e) e es all))

pub open_ends_are_left : (N S : Type 0) → OpenEndsAreLeft N S
open_ends_are_left N S io items by o open_so = record {
  ends = same;
  places = places;
  told = ap (λ (es : List EndId). map (λ e. let x : SockEnd = record { end = e; place = place_of was e } in x) es) same ∙ same_told (place_of was) (place_of now) (ends_of o now) places;
}
  where
    now : Control
    now = after_all items (begun io)

    was : Control
    was = left_after o (moments_of io items by)

    left_so : AreLeftSo was now o
    left_so =
        left_snoc by o (above io items by o open_so) items [] (begun io) (begun 0) (begun_kept io) (All-nil (IsOld (begun io))) open_so.run open_so.callers (λ e. absurd (none_some e)) (had io items by o open_so).has

    same : ends_of o was ≡ ends_of o now
    same = left_so.ends

    places : All (λ e. place_of was e ≡ place_of now e) (ends_of o now)
    places = All-weaker (AsLeft was now) (λ e. place_of was e ≡ place_of now e) (λ e a. a.place) (ends_of o now) left_so.each
