-- An open socket keeps ends that were attached, and no peer of it has two names.
use Rattle.std.specs.Prelude.{◌≡◌, ◌≢◌, ◌==◌, ◌||◌, not, ℕ, Bool, true, false, List, [], ◌∷◌, ◌++◌, Option, Some, None, All, if◌then◌else◌, map, refl, option_to_list, filter}
use Rattle.std.specs.List.{list_any}
use Rattle.std.specs.Map.{keys_of}
use Rattle.std.proofs.Common.{arith, sym, ap, ◌∙◌, subst, append-nil, append_assoc}
use Rattle.std.proofs.lemmas.List.Elements.{All-nil, All-append, All-weaker, All-filter, All-map}
use Rattle.std.proofs.lemmas.Map.Views.{All-map-remove_entry}
use Rattle.std.proofs.lemmas.List.Folds.{list_any-append}
use Rattle.zq_base.specs.Ends.{PipeId}
use Rattle.zq_base.specs.declared.ids.EndId.{EndId}
use Rattle.spec_pattern.specs.PipeStep.{PipeStep, same_pipe}
use Rattle.spec_pattern.specs.Duty.{Duty, Free, Asked as HasAsked, Owing}
use Rattle.spec_pattern.specs.Routing.{Names}
use Rattle.spec_pattern.specs.Topics.{Topic, Subscribers, without_peer}
use Rattle.spec_pattern.specs.TurnList.{End}
use Rattle.spec_pattern.specs.Pattern.{Pattern, Push, Pull, Pair, Dealer, Req as ReqKind, Rep, Router, Pub, XPub, Sub, XSub, attach, attach_as, detach, without, partner_without, duty_without}
use Rattle.spec_pattern.specs.Peers.{kept_ends, peer_names, named_peer, partner_of, HaveOneName, KeepsPeers}
use Rattle.spec_pattern.proofs.OnceLemmas.{unmapped}
use Rattle.spec_pattern.proofs.NamesStayLemmas.{names_stay_one}
use Rattle.spec_pattern.proofs.PumpedLemmas.{all_stay}
use Rattle.spec_run.proofs.AttachLemmas.{all_front, all_behind, attach_all as kept_with_one, names_kept}
use Rattle.spec_control.specs.declared.letter.Letter.{Letter}
use Rattle.spec_control.specs.declared.request.Req.{Req}
use Rattle.spec_control.specs.declared.request.Reply.{Reply}
use Rattle.spec_control.specs.declared.entry.Joining.{Joining}
use Rattle.spec_control.specs.declared.entry.Answered.{Answered}
use Rattle.spec_control.specs.declared.entry.Did.{Did}
use Rattle.spec_control.specs.declared.entry.Did.TheVariants.{Asked, Delivered, Delimited}
use Rattle.spec_control.specs.declared.entry.Sight.{Sight}
use Rattle.spec_control.specs.declared.entry.Item.{Item}
use Rattle.spec_control.specs.declared.entry.Item.TheVariants.{Event, Seen}
use Rattle.spec_control.specs.Row.{is_socket}
use Rattle.spec_control.specs.Rows.{obj}
use Rattle.spec_control.specs.Control.{Control, is_end, owner_of}
use Rattle.control_laws.specs.Coming.{MayCome}
use Rattle.spec_control.specs.After.{after}
use Rattle.spec_control.specs.ControlRun.{Fits, FitsItem, joins_in, answer_of, after_item}
use Rattle.control_laws.proofs.ListLemmas.{never}
use Rattle.control_laws.proofs.AskLemmas.{same_end}
use Rattle.control_laws.specs.OwnMoves.{own_moves}
use Rattle.control_laws.specs.AttachedOnce.{AreOnce}
use Rattle.control_laws.proofs.LeadLemmas.{attached_by}
use Rattle.control_laws.proofs.AttachedLemmas.{attached_after, asked_ends}
use Rattle.control_laws.proofs.AttachedOnceLemmas.{ends_are_attached_once}
use Rattle.spec_control.specs.Has.{acts_in_request}
use Rattle.spec_control.specs.Moments.{Moment}
use Rattle.spec_run.specs.Act.{Act, Step, Said, moments_in}
use Rattle.spec_run.specs.OpenSocket.{OpenSock, attach_all, detach_all, AreAnswered, joins_of, leaves_in, sock_after, PassesItems}
use Rattle.replay_laws.proofs.WalkLemmas.{leaves, Walks, Reached, reached_item}
use Rattle.replay_laws.proofs.LetterLemmas.{Sits, moment, joins_own, ends_as, ends_of_word, for_socket, may_come, no_reap}
use Rattle.replay_laws.proofs.LookLemmas.{sits_item, moment_is, none_joined}

-- an end is among these
abbrev pub IsIn : List EndId → EndId → Type 0
IsIn es e = list_any (is_end e) es ≡ true

or_left : (a b : Bool) → a ≡ true → (a || b) ≡ true
or_left true b h = refl
or_left false b h = absurd (never h)

or_right : (a b : Bool) → b ≡ true → (a || b) ≡ true
or_right true b h = refl
or_right false b h = h

in_front : (xs ys : List EndId) (e : EndId) → IsIn xs e → IsIn (xs ++ ys) e
in_front xs ys e h = list_any-append (is_end e) xs ys ∙ or_left (list_any (is_end e) xs) (list_any (is_end e) ys) h

end_itself : (e : EndId) → is_end e e ≡ true
end_itself e = grind arith

in_itself : (xs ys : List EndId) (e : EndId) → IsIn (xs ++ e ∷ ys) e
in_itself xs ys e = list_any-append (is_end e) xs (e ∷ ys) ∙ or_right (list_any (is_end e) xs) _ (or_left (is_end e e) (list_any (is_end e) ys) (end_itself e))

-- an end before another is another one, where each stands once
apart_once : (xs ys : List EndId) (x e : EndId) → AreOnce (xs ++ x ∷ ys) → IsIn xs e → e ≢ x
apart_once [] ys x e once there = absurd (never there)
apart_once (z ∷ xs) ys x e once there = by (is_end e z) refl (apart_once xs ys x e once.1)
  where
    by : (b : Bool) → is_end e z ≡ b → (IsIn xs e → e ≢ x) → e ≢ x
    by true is rest = λ same.
        let e_is_z = same_end e z is in
        let there_too : IsIn (xs ++ x ∷ ys) z = subst (IsIn (xs ++ x ∷ ys)) (sym same ∙ e_is_z) (in_itself xs ys x) in
        never (sym once.0 ∙ there_too)
    by false is rest = rest (sym (ap (λ (b : Bool). b || list_any (is_end e) xs) is) ∙ there)

-- a peer that goes takes its own end alone
module _ (P : End → Type 0) where
  stays : (es : List End) → All P es → All P es
  stays es all = all

  five : (a b c d e v w x y z : List End) → (All P a → All P v) → (All P b → All P w) → (All P c → All P x) → (All P d → All P y) → (All P e → All P z)
      → All P (a ++ (b ++ (c ++ (d ++ e)))) → All P (v ++ (w ++ (x ++ (y ++ z))))
  five a b c d e v w x y z f g h i j all =
      let one = all_behind P a _ all in
      let two = all_behind P b _ one in
      let three = all_behind P c _ two in
      All-append P v _ (f (all_front P a _ all)) (All-append P w _ (g (all_front P b _ one)) (All-append P x _ (h (all_front P c _ two)) (All-append P y _ (i (all_front P d _ three)) (j (all_behind P d _ three)))))

  module _ (e : End) where
    fewer : (es : List End) → All P es → All P (without e es)
    fewer es all = All-filter (λ x. not (same_pipe e x)) P es all

    fewer_names : (names : Names) → All P (map named_peer names) → All P (map named_peer (filter (λ n. not (same_pipe e n.peer)) names))
    fewer_names names all =
        All-map P named_peer (filter (λ n. not (same_pipe e n.peer)) names) (All-filter (λ n. not (same_pipe e n.peer)) (λ n. P n.peer) names (unmapped P named_peer names all))

    fewer_peers : (subs : Subscribers End) → All P (keys_of subs) → All P (keys_of (without_peer same_pipe e subs))
    fewer_peers subs all = All-map-remove_entry (same_pipe e) (λ (s : End × List Topic). s.0) P subs all

    fewer_partner : (peer : Option End) → All P (option_to_list peer) → All P (option_to_list (partner_without e peer))
    fewer_partner None all = all
    fewer_partner (Some x) all = by (same_pipe e x)
      where
        by : (b : Bool) → All P (option_to_list (if b then None else Some x))
        by true = All-nil P
        by false = all

    fewer_duty : (duty : Duty) → All P (option_to_list (partner_of duty)) → All P (option_to_list (partner_of (duty_without e duty)))
    fewer_duty Free all = all
    fewer_duty (HasAsked peer) all = fewer_partner peer all
    fewer_duty (Owing peer envelope) all = fewer_partner peer all

    detach_kept : (p : Pattern) → All P (kept_ends p) → All P (kept_ends (detach e p))
    detach_kept (Push outs) = five outs [] [] [] [] (without e outs) [] [] [] [] (fewer outs) (stays []) (stays []) (stays []) (stays [])
    detach_kept (Pull ins) = five [] ins [] [] [] [] (without e ins) [] [] [] (stays []) (fewer ins) (stays []) (stays []) (stays [])
    detach_kept (Pair t) = five t.outs t.ins [] [] [] (without e t.outs) (without e t.ins) [] [] [] (fewer t.outs) (fewer t.ins) (stays []) (stays []) (stays [])
    detach_kept (Dealer t) = five t.outs t.ins [] [] [] (without e t.outs) (without e t.ins) [] [] [] (fewer t.outs) (fewer t.ins) (stays []) (stays []) (stays [])
    detach_kept (ReqKind t duty) =
        five t.outs t.ins [] [] (option_to_list (partner_of duty)) (without e t.outs) (without e t.ins) [] [] (option_to_list (partner_of (duty_without e duty))) (fewer t.outs) (fewer t.ins) (stays []) (stays []) (fewer_duty duty)
    detach_kept (Rep ins duty) =
        five [] ins [] [] (option_to_list (partner_of duty)) [] (without e ins) [] [] (option_to_list (partner_of (duty_without e duty))) (stays []) (fewer ins) (stays []) (stays []) (fewer_duty duty)
    detach_kept (Router r) =
        five [] r.ins (map named_peer r.names) [] [] [] (without e r.ins) (map named_peer (filter (λ n. not (same_pipe e n.peer)) r.names)) [] [] (stays []) (fewer r.ins) (fewer_names r.names) (stays []) (stays [])
    detach_kept (Pub p) = five [] p.ins [] (keys_of p.subs) [] [] (without e p.ins) [] (keys_of (without_peer same_pipe e p.subs)) [] (stays []) (fewer p.ins) (stays []) (fewer_peers p.subs) (stays [])
    detach_kept (XPub p) = five [] p.ins [] (keys_of p.subs) [] [] (without e p.ins) [] (keys_of (without_peer same_pipe e p.subs)) [] (stays []) (fewer p.ins) (stays []) (fewer_peers p.subs) (stays [])
    detach_kept (Sub s) = five [] s.ins [] (keys_of s.followers) [] [] (without e s.ins) [] (keys_of (without_peer same_pipe e s.followers)) [] (stays []) (fewer s.ins) (stays []) (fewer_peers s.followers) (stays [])
    detach_kept (XSub s) = five [] s.ins [] (keys_of s.followers) [] [] (without e s.ins) [] (keys_of (without_peer same_pipe e s.followers)) [] (stays []) (fewer s.ins) (stays []) (fewer_peers s.followers) (stays [])

detach_all_kept : (P : End → Type 0) (es : List EndId) (p : Pattern) → All P (kept_ends p) → All P (kept_ends (detach_all es p))
detach_all_kept P [] p all = all
detach_all_kept P (e ∷ es) p all = detach_all_kept P es (detach e p) (detach_kept P e p all)

detach_all_names : (es : List EndId) (p : Pattern) → HaveOneName (peer_names p) → HaveOneName (peer_names (detach_all es p))
detach_all_names [] p names = names
detach_all_names (e ∷ es) p names = detach_all_names es (detach e p) (names_stay_one.goes e p names)

-- what a kind keeps
pub record Keeps (es : List EndId) (p : Pattern) : Type 0 where
  pub ends : All (IsIn es) (kept_ends p)
  pub names : HaveOneName (peer_names p)

abbrev ends_joined : {N : Type 0} → List (Joining N) → List EndId
ends_joined js = map (λ j. j.end) js

joined_kept : {N : Type 0} (js : List (Joining N)) (es : List EndId) (p : Pattern) → AreOnce (es ++ ends_joined js) → Keeps es p → AreAnswered js p → Keeps (es ++ ends_joined js) (attach_all js p)
joined_kept [] es p once k answered = subst (λ l. Keeps l p) (sym (append-nil es)) k
joined_kept (j ∷ js) es p once k answered =
    let q : Pattern = attach_as j.answer j.end j.peer p in
    let is : q ≡ attach j.end j.peer p = ap (λ a. attach_as a j.end j.peer p) answered.0 in
    let wider = All-weaker (IsIn es) (IsIn (es ++ j.end ∷ [])) (λ e. in_front es (j.end ∷ []) e) (kept_ends p) k.ends in
    let ends = kept_with_one (IsIn (es ++ j.end ∷ [])) j.end j.peer p (in_itself es [] j.end) wider in
    let others = All-weaker (IsIn es) (λ e. e ≢ j.end) (λ e. apart_once es (ends_joined js) j.end e once) (map named_peer (peer_names p)) (names_kept (IsIn es) p k.ends) in
    let names = names_stay_one.comes j.end j.peer p others k.names in
    let on = append_assoc es (j.end ∷ []) (ends_joined js) in
    subst (λ l. Keeps l (attach_all js q)) on
    (joined_kept js (es ++ j.end ∷ []) q (subst AreOnce (sym on) once)
    (subst (Keeps (es ++ j.end ∷ [])) (sym is) (record { ends = ends; names = names })) answered.1)

-- an open socket
pub record Stands (c : Control) (s : OpenSock) : Type 0 where
  pub sits : Sits c s
  pub keeps : Keeps c.attached s.pattern

-- a socket goes on where it hears, tells, sends or receives
pub stands_called : (c : Control) (s : OpenSock) (p : Pattern) → KeepsPeers s.pattern p → Stands c s → Stands c (record s { pattern = p })
stands_called c s p kept stands = record {
  sits = record { socket = stands.sits.socket; slot = stands.sits.slot };
  keeps = record { ends = all_stay (IsIn c.attached) s.pattern p kept stands.keeps.ends; names = names_stay_one.calls s.pattern p kept stands.keeps.names };
}

-- an item that an open socket of this mailbox and number goes through
pub data OwnItem {N S : Type 0} (slot object : ℕ) (item : Item N S) : Type 0 where
  its_letter : (by : ℕ) (letter : Letter) (g : Answered N S) → item ≡ Event (record { by = by; did = Delivered (record { 0 = slot }) letter g }) → OwnItem slot object item
  its_delimiter : (by : ℕ) (e : EndId) (g : Answered N S) → item ≡ Event (record { by = by; did = Delimited e g }) → OwnItem slot object item
  its_request : (by : ℕ) (req : Req) (reply : Reply) (g : Answered N S) → ((c : Control) → acts_in_request c req ≡ Some object) → item ≡ Event (record { by = by; did = Asked req reply g }) → OwnItem slot object item
  its_look : (sight : Sight) → item ≡ Seen sight → OwnItem slot object item

abbrev pub OwnItems : {N S : Type 0} → (slot object : ℕ) → List (Moment N S) → Type 0
OwnItems slot object [] = Unit {0}
OwnItems slot object (m ∷ ms) = OwnItem slot object m.item × OwnItems slot object ms

pub own_both : {N S : Type 0} (slot object : ℕ) (ms ns : List (Moment N S)) → OwnItems slot object ms → OwnItems slot object ns → OwnItems slot object (ms ++ ns)
own_both slot object [] ns own owns = owns
own_both slot object (m ∷ ms) ns own owns = (own.0, own_both slot object ms ns own.1 owns)

module _ {N S : Type 0} where
  once_of : (c : Control) → Reached N S c → AreOnce c.attached
  once_of c r = subst (λ (d : Control). AreOnce d.attached) r.is (ends_are_attached_once N S 1 r.items r.run)

  -- a socket goes on where another does something
  pub stands_aside : (item : Item N S) (c : Control) → Reached N S c → FitsItem c item → (s : OpenSock) → Stands c s → Stands (after_item item c) s
  stands_aside (Event entry) c r fits s stands = record {
    sits = sits_item (Event entry) c r fits s stands.sits;
    keeps = record {
      ends = subst (λ es. All (IsIn es) (kept_ends s.pattern)) (sym (attached_after c entry.did))
          (All-weaker (IsIn c.attached) (IsIn (c.attached ++ attached_by (own_moves c entry.did))) (λ e. in_front c.attached (attached_by (own_moves c entry.did)) e) (kept_ends s.pattern) stands.keeps.ends);
      names = stands.keeps.names;
    };
  }
  stands_aside (Seen sight) c r fits s stands = stands

  goes_through : (c : Control) (by : ℕ) (did : Did N S) (s : OpenSock) → Reached N S c → Fits c did → Stands c s → joins_of s.object (moment c by did) ≡ (answer_of did).joined
      → map (λ j. j.end) (joins_in c did) ≡ attached_by (own_moves c did) → AreAnswered (joins_of s.object (moment c by did)) s.pattern → Stands (after did c) (sock_after (moment c by did) s)
  goes_through c by did s r fits stands own ends answered =
      let js = (answer_of did).joined in
      let attached : (after did c).attached ≡ c.attached ++ ends_joined js = attached_after c did ∙ ap (λ l. c.attached ++ l) (sym (ends_as js (joins_in c did) fits.answered.joined ∙ ends)) in
      let once = subst AreOnce attached (once_of (after did c) (reached_item (Event (record { by = by; did = did })) c r fits)) in
      let k = joined_kept js c.attached s.pattern once stands.keeps (subst (λ l. AreAnswered l s.pattern) own answered) in
      let q = subst (λ l. Keeps (after did c).attached (attach_all l s.pattern)) (sym own) (subst (λ l. Keeps l (attach_all js s.pattern)) (sym attached) k) in
      let sits = sits_item (Event (record { by = by; did = did })) c r fits s stands.sits in
      let p : Pattern = attach_all (joins_of s.object (moment c by did)) s.pattern in
      record {
        sits = record { socket = sits.socket; slot = sits.slot };
        keeps = record { ends = detach_all_kept (IsIn (after did c).attached) (leaves_in (moment c by did) s) p q.ends; names = detach_all_names (leaves_in (moment c by did) s) p q.names };
      }

  stands_one : (m : Moment N S) (c : Control) (s : OpenSock) → Reached N S c → m.found ≡ c → FitsItem c m.item → Stands c s → OwnItem s.slot s.object m.item → AreAnswered (joins_of s.object m) s.pattern → Stands (after_item m.item c) (sock_after m s)
  stands_one m c s r found fits stands (its_letter by letter g is) answered =
      let did : Did N S = Delivered (record { 0 = s.slot }) letter g in
      let m_is = moment_is m c by did found is in
      let fit : Fits c did = subst (FitsItem c) is fits in
      let at = for_socket c r s stands.sits letter fit.may in
      let word = ends_of_word letter.word c letter.to.0 (λ socket e. no_reap c r letter.to.0 (ap (λ (n : ℕ). is_socket (obj c.rows n).kind) at ∙ stands.sits.socket) socket (subst (MayCome c letter.to.0) e (may_come c r s.slot letter fit.may))) in
      subst (λ (k : Moment N S). Stands (after_item k.item c) (sock_after k s)) (sym m_is)
      (goes_through c by did s r fit stands (joins_own c r by did fit s.object (ap (λ (n : ℕ). Some n) at) word) word (subst (λ k. AreAnswered (joins_of s.object k) s.pattern) m_is answered))
  stands_one m c s r found fits stands (its_delimiter by e g is) answered =
      let did : Did N S = Delimited e g in
      let m_is = moment_is m c by did found is in
      let fit : Fits c did = subst (FitsItem c) is fits in
      let none = none_joined g.joined fit.answered.joined in
      subst (λ (k : Moment N S). Stands (after_item k.item c) (sock_after k s)) (sym m_is)
      (goes_through c by did s r fit stands (ap (λ (l : List (Joining N)). filter (λ j. owner_of (after did c) j.end == s.object) l) none ∙ sym none) refl (subst (λ k. AreAnswered (joins_of s.object k) s.pattern) m_is answered))
  stands_one m c s r found fits stands (its_request by req reply g mine is) answered =
      let did : Did N S = Asked req reply g in
      let m_is = moment_is m c by did found is in
      let fit : Fits c did = subst (FitsItem c) is fits in
      subst (λ (k : Moment N S). Stands (after_item k.item c) (sock_after k s)) (sym m_is)
      (goes_through c by did s r fit stands (joins_own c r by did fit s.object (mine c) (asked_ends c req reply)) (asked_ends c req reply) (subst (λ k. AreAnswered (joins_of s.object k) s.pattern) m_is answered))
  stands_one m c s r found fits stands (its_look sight is) answered =
      let m_is : ◌≡◌ {A = Moment N S} m (record { found = c; item = Seen sight }) = λ i. record { found = found i; item = is i } in
      let seen : Moment N S = record { found = c; item = Seen sight } in
      subst (λ (k : Moment N S). Stands (after_item k.item c) (sock_after k s)) (sym m_is) (record {
        sits = record { socket = stands.sits.socket; slot = stands.sits.slot };
        keeps = record { ends = detach_all_kept (IsIn c.attached) (leaves_in seen s) s.pattern stands.keeps.ends; names = detach_all_names (leaves_in seen s) s.pattern stands.keeps.names };
      })

  pub stands_on : (cap : PipeId → ℕ) (xs : List (Act N S)) (c : Control) (past : List PipeStep) (s u : OpenSock) → Reached N S c → Walks cap c past xs → OwnItems s.slot s.object (moments_in xs) → PassesItems (moments_in xs) s u → Stands c s → Stands (leaves c xs) u
  stands_on cap [] c past s u r w own f stands = subst (Stands c) (sym f) stands
  stands_on cap (Step x ∷ xs) c past s u r w own f stands = stands_on cap xs c (past ++ x ∷ []) s u r w.1 own f stands
  stands_on cap (Said m ∷ xs) c past s u r w own f stands =
      stands_on cap xs (after_item m.item c) past (sock_after m s) u (reached_item m.item c r w.1) w.2 own.1 f.1 (stands_one m c s r w.0 w.1 stands own.0 f.0)
