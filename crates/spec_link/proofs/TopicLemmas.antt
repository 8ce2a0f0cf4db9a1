-- What a link says first.
use Rattle.std.proofs.Common.{◌≡◌, ℕ, Bool, true, false, List, [], ◌∷◌, ◌++◌, length, drop, Option, Some, None, refl, sym, ap, subst, ◌∙◌, inl, inr, append_assoc}
use Rattle.std.specs.Prelude.{◌⊎◌}
use mathlib.Core.List.{IsPrefix}
use Rattle.std.proofs.lemmas.List.{append-nil, map-append}
use Rattle.std.proofs.lemmas.List.Concat.{flat_map-append}
use Rattle.std.specs.Cmp.Lexicographic.{bytes_decides}
use Rattle.std.specs.Str.{bytes_eq}
use Rattle.zq_base.specs.Message.{Frames}
use Rattle.zq_base.specs.Ends.{PipeId}
use Rattle.zq_outer.specs.declared.link.LinkGot.{LinkGot}
use Rattle.zq_outer.specs.declared.link.LinkPut.{LinkPut}
use Rattle.spec_pattern.specs.PipeStep.{Commit, FullLook, RoomLook, Take, EmptyLook, DelimiterLook, WaitingLook, Seal}
use Rattle.spec_pattern.specs.Topics.{Topic}
use Rattle.spec_pattern.specs.Subscribing.{tell_message}
use Rattle.spec_zmtp.specs.DecodedStream.{Decoded}
use Rattle.spec_zmtp.proofs.MoreLemmas.{front_trans}
use Rattle.spec_link.specs.LinkAct.{LinkAct, Wire, Step, Dials, Accepts, Writes, Reads, Repeats, Pings, offered_by, repeated_by, taken_by, offered_of, repeated_of, taken_of}
use Rattle.spec_link.specs.Parts.{IsTake, IsWritePart, PutsAll, write_acts, read_acts, puts}
use Rattle.spec_link.specs.History.{Basis, Standing}
use Rattle.spec_link.specs.Turn.{IsNextOf, HasNext, IsWriteOnly, WritesAt, ReadsAt, PutsLast, no_more, drops, holds, topics_due, topics_left, read_pipe}
use Rattle.spec_link.specs.Turn.{puts as puts_at}
use Rattle.spec_link.specs.Across.{Crosses}
use Rattle.spec_link.specs.TopicsFirst.{SaysTopicsFirst, TopicsComeFirst, topics_said}

-- ---- acts that offer nothing

pub record Offers (acts : List LinkAct) (offered repeated taken : List Frames) : Type 0 where
  pub offers : offered_of acts ≡ offered
  pub repeats : repeated_of acts ≡ repeated
  pub takes : taken_of acts ≡ taken

abbrev pub Silent : List LinkAct → Type 0
Silent acts = Offers acts [] [] []

pub silent_on : (xs ys : List LinkAct) → Silent xs → Silent ys → Silent (xs ++ ys)
silent_on xs ys p q = record {
  offers = flat_map-append offered_by xs ys ∙ ap (λ (l : List Frames). l ++ offered_of ys) p.offers ∙ q.offers;
  repeats = flat_map-append repeated_by xs ys ∙ ap (λ (l : List Frames). l ++ repeated_of ys) p.repeats ∙ q.repeats;
  takes = flat_map-append taken_by xs ys ∙ ap (λ (l : List Frames). l ++ taken_of ys) p.takes ∙ q.takes;
}

pub silent_writes : (answer : Option LinkPut) (octets : List ℕ) → Silent (write_acts answer octets)
silent_writes None octets = record { offers = refl; repeats = refl; takes = refl }
silent_writes (Some a) octets = record { offers = refl; repeats = refl; takes = refl }

pub silent_reads : (answer : Option LinkGot) (octets : List ℕ) → Silent (read_acts answer octets)
silent_reads None octets = record { offers = refl; repeats = refl; takes = refl }
silent_reads (Some a) octets = record { offers = refl; repeats = refl; takes = refl }

silent_puts : (pipe : PipeId) (ms : List Frames) → Silent (puts pipe ms)
silent_puts pipe [] = record { offers = refl; repeats = refl; takes = refl }
silent_puts pipe (m ∷ ms) = (let k = silent_puts pipe ms in record { offers = k.offers; repeats = k.repeats; takes = k.takes })

pub silent_none : Silent []
silent_none = record { offers = refl; repeats = refl; takes = refl }

silent_full : (pipe : PipeId) → Silent (Step (FullLook pipe) ∷ [])
silent_full pipe = record { offers = refl; repeats = refl; takes = refl }

pub silent_as : (xs ys : List LinkAct) → ys ≡ xs → Silent xs → Silent ys
silent_as xs ys e k = subst (λ (l : List LinkAct). Silent l) (sym e) k

pub silent_all : (held nothing : Type 0) (pipe : PipeId) (acts : List LinkAct) → PutsAll held nothing pipe acts → Silent acts
silent_all held nothing pipe acts (ms, inl k) = silent_as (puts pipe ms) acts k.0 (silent_puts pipe ms)
silent_all held nothing pipe acts (ms, inr k) = silent_as (puts pipe ms ++ Step (FullLook pipe) ∷ []) acts k.0 (silent_on (puts pipe ms) (Step (FullLook pipe) ∷ []) (silent_puts pipe ms) (silent_full pipe))

-- ---- one part more

still : (due : List Topic) (acts more : List LinkAct) → Silent more → SaysTopicsFirst due acts → SaysTopicsFirst due (acts ++ more)
still due acts more k f =
    let takes : taken_of (acts ++ more) ≡ taken_of acts = flat_map-append taken_by acts more ∙ ap (λ (l : List Frames). taken_of acts ++ l) k.takes ∙ append-nil (taken_of acts) in
    record {
      said = f.said;
      left = f.left;
      all = f.all;
      repeated = flat_map-append repeated_by acts more ∙ ap (λ (l : List Frames). repeated_of acts ++ l) k.repeats ∙ append-nil (repeated_of acts) ∙ f.repeated;
      offered = flat_map-append offered_by acts more ∙ ap (λ (l : List Frames). offered_of acts ++ l) k.offers ∙ append-nil (offered_of acts) ∙ f.offered ∙ ap (λ (l : List Frames). topics_said f.said ++ l) (sym takes);
      wait = elim f.wait as (λ _. (f.left ≡ []) ⊎ (taken_of (acts ++ more) ≡ [])) [
        | inl e ↦ inl e
        | inr e ↦ inr (takes ∙ e)
      ];
    }

-- a message is taken, where no topic is left
takes_one : (due : List Topic) (acts more : List LinkAct) (m : Frames) → Offers more (m ∷ []) [] (m ∷ []) → (f : SaysTopicsFirst due acts) → f.left ≡ [] → SaysTopicsFirst due (acts ++ more)
takes_one due acts more m k f none =
    let takes : taken_of (acts ++ more) ≡ taken_of acts ++ m ∷ [] = flat_map-append taken_by acts more ∙ ap (λ (l : List Frames). taken_of acts ++ l) k.takes in
    record {
      said = f.said;
      left = f.left;
      all = f.all;
      repeated = flat_map-append repeated_by acts more ∙ ap (λ (l : List Frames). repeated_of acts ++ l) k.repeats ∙ append-nil (repeated_of acts) ∙ f.repeated;
      offered = flat_map-append offered_by acts more ∙ ap (λ (l : List Frames). offered_of acts ++ l) k.offers ∙ ap (λ (l : List Frames). l ++ m ∷ []) f.offered
          ∙ append_assoc (topics_said f.said) (taken_of acts) (m ∷ []) ∙ ap (λ (l : List Frames). topics_said f.said ++ l) (sym takes);
      wait = inl none;
    }

none_left : (t : Topic) (ts : List Topic) (left : List Topic) (X : Type 0) → left ≡ t ∷ ts → (left ≡ []) ⊎ X → X
none_left t ts left X e (inl d) = (let c : t ∷ ts ≡ [] = sym e ∙ d in absurd cc)
none_left t ts left X e (inr x) = x

-- a topic is said again, where it is the next
says_one : (due : List Topic) (acts more : List LinkAct) (t : Topic) (ts : List Topic) → Offers more (tell_message (1, t) ∷ []) (tell_message (1, t) ∷ []) [] → (f : SaysTopicsFirst due acts) → f.left ≡ t ∷ ts → SaysTopicsFirst due (acts ++ more)
says_one due acts more t ts k f next =
    let none : taken_of acts ≡ [] = none_left t ts f.left (taken_of acts ≡ []) next f.wait in
    let takes : taken_of (acts ++ more) ≡ [] = flat_map-append taken_by acts more ∙ ap (λ (l : List Frames). taken_of acts ++ l) k.takes ∙ append-nil (taken_of acts) ∙ none in
    let one : topics_said (f.said ++ t ∷ []) ≡ topics_said f.said ++ tell_message (1, t) ∷ [] = map-append (λ x. tell_message (1, x)) f.said (t ∷ []) in
    record {
      said = f.said ++ t ∷ [];
      left = ts;
      all = append_assoc f.said (t ∷ []) ts ∙ ap (λ (l : List Topic). f.said ++ l) (sym next) ∙ f.all;
      repeated = flat_map-append repeated_by acts more ∙ ap (λ (l : List Frames). repeated_of acts ++ l) k.repeats ∙ ap (λ (l : List Frames). l ++ tell_message (1, t) ∷ []) f.repeated ∙ sym one;
      offered = flat_map-append offered_by acts more ∙ ap (λ (l : List Frames). offered_of acts ++ l) k.offers ∙ ap (λ (l : List Frames). l ++ tell_message (1, t) ∷ []) (f.offered ∙ ap (λ (l : List Frames). topics_said f.said ++ l) none ∙ append-nil (topics_said f.said))
          ∙ sym one ∙ sym (append-nil (topics_said (f.said ++ t ∷ []))) ∙ ap (λ (l : List Frames). topics_said (f.said ++ t ∷ []) ++ l) (sym takes);
      wait = inr takes;
    }

-- ---- the writing part

-- what one act behind the write may be
abbrev pub Next : List Topic → LinkAct → Type 0
Next left x =
    Silent (x ∷ []) ⊎ (((m : Frames) × (left ≡ []) × Offers (x ∷ []) (m ∷ []) [] (m ∷ []))
    ⊎ ((t : Topic) × (ts : List Topic) × (left ≡ t ∷ ts) × Offers (x ∷ []) (tell_message (1, t) ∷ []) (tell_message (1, t) ∷ []) []))

abbrev pub Stable : Type 0 → Type 0
Stable X = (X → ⊥) → ⊥

no_repeat : (pipe : PipeId) (m : Frames) → IsTake pipe (Wire (Repeats m)) → ⊥
no_repeat pipe m (inl e) = (let c = e.1 in absurd cc)
no_repeat pipe m (inr (inl e)) = absurd cc
no_repeat pipe m (inr (inr e)) = absurd cc

no_take : (pipe : PipeId) (m : Frames) (topic : Frames) → Step (Take pipe m) ≡ Wire (Repeats topic) → ⊥
no_take pipe m topic e = absurd cc

the_frames : (m n : Frames) → Wire (Repeats m) ≡ Wire (Repeats n) → m ≡ n
the_frames m n e = cc

the_frame : (f g : List ℕ) → f ∷ [] ≡ g ∷ [] → f ≡ g
the_frame f g e = cc

true_or : (f g : List ℕ) (b : Bool) → bytes_eq f g ≡ b → ((f ≡ g → ⊥) → ⊥) → f ≡ g
true_or f g true e k = (bytes_decides f g).0 e
true_or f g false e k = absurd (k (λ d. no_true (sym ((bytes_decides f g).1 d) ∙ e)))
  where
    no_true : true ≡ false → ⊥
    no_true d = cc

message_is : (m : Frames) (t : Topic) → Stable (Wire (Repeats m) ≡ Wire (Repeats (tell_message (1, t)))) → m ≡ tell_message (1, t)
message_is [] t k = absurd (k (λ e. no_nil (the_frames [] (tell_message (1, t)) e)))
  where
    no_nil : [] ≡ tell_message (1, t) → ⊥
    no_nil d = cc
message_is (f ∷ []) t k = ap (λ (x : List ℕ). x ∷ []) (true_or f (1 ∷ t) (bytes_eq f (1 ∷ t)) refl (λ never. k (λ e. never (the_frame f (1 ∷ t) (the_frames (f ∷ []) (tell_message (1, t)) e)))))
message_is (f ∷ (g ∷ rest)) t k = absurd (k (λ e. no_two (the_frames (f ∷ (g ∷ rest)) (tell_message (1, t)) e)))
  where
    no_two : f ∷ (g ∷ rest) ≡ tell_message (1, t) → ⊥
    no_two d = cc

pub next_is : (pipe : PipeId) (left : List Topic) (x : LinkAct) → Stable (IsNextOf pipe left x) → Next left x
next_is pipe left (Wire (Dials a)) k = inl (record { offers = refl; repeats = refl; takes = refl })
next_is pipe left (Wire (Accepts a)) k = inl (record { offers = refl; repeats = refl; takes = refl })
next_is pipe left (Wire (Writes a octets)) k = inl (record { offers = refl; repeats = refl; takes = refl })
next_is pipe left (Wire (Reads a octets)) k = inl (record { offers = refl; repeats = refl; takes = refl })
next_is pipe left (Wire (Pings ttl)) k = inl (record { offers = refl; repeats = refl; takes = refl })
next_is pipe [] (Wire (Repeats m)) k = absurd (k (no_repeat pipe m))
next_is pipe (t ∷ ts) (Wire (Repeats m)) k =
    let e = message_is m t k in
    inr (inr (t, ts, refl, record { offers = ap (λ (x : Frames). x ∷ []) e; repeats = ap (λ (x : Frames). x ∷ []) e; takes = refl }))
next_is pipe left (Step (Commit p m)) k = inl (record { offers = refl; repeats = refl; takes = refl })
next_is pipe left (Step (FullLook p)) k = inl (record { offers = refl; repeats = refl; takes = refl })
next_is pipe left (Step (RoomLook p)) k = inl (record { offers = refl; repeats = refl; takes = refl })
next_is pipe [] (Step (Take p m)) k = inr (inl (m, refl, record { offers = refl; repeats = refl; takes = refl }))
next_is pipe (t ∷ ts) (Step (Take p m)) k = absurd (k (no_take p m (tell_message (1, t))))
next_is pipe left (Step (EmptyLook p)) k = inl (record { offers = refl; repeats = refl; takes = refl })
next_is pipe left (Step (DelimiterLook p)) k = inl (record { offers = refl; repeats = refl; takes = refl })
next_is pipe left (Step (WaitingLook p)) k = inl (record { offers = refl; repeats = refl; takes = refl })
next_is pipe left (Step (Seal p)) k = inl (record { offers = refl; repeats = refl; takes = refl })

-- behind the write, where these topics are left
behind_one : (due : List Topic) (acts : List LinkAct) (x : LinkAct) (f : SaysTopicsFirst due acts) → Next f.left x → SaysTopicsFirst due (acts ++ x ∷ [])
behind_one due acts x f (inl k) = still due acts (x ∷ []) k f
behind_one due acts x f (inr (inl k)) = takes_one due acts (x ∷ []) k.0 k.2 f k.1
behind_one due acts x f (inr (inr k)) = says_one due acts (x ∷ []) k.0 k.1 k.3 f k.2

pub no_nil : (x : LinkAct) (xs : List LinkAct) → x ∷ xs ≡ [] → ⊥
no_nil x xs e = cc

pub no_more_than : (x y z : LinkAct) (ys : List LinkAct) → x ∷ (y ∷ ys) ≡ z ∷ [] → ⊥
no_more_than x y z ys e = cc

pub the_first : (x z : LinkAct) (xs : List LinkAct) → x ∷ xs ≡ z ∷ [] → z ≡ x
the_first x z xs e = cc

behind_all : (due : List Topic) (acts : List LinkAct) (pipe : PipeId) (f : SaysTopicsFirst due acts) (takes : List LinkAct)
    → ((x : LinkAct) (xs : List LinkAct) → takes ≡ x ∷ xs → Stable ((act : LinkAct) × IsNextOf pipe f.left act × (takes ≡ act ∷ []))) → SaysTopicsFirst due (acts ++ takes)
behind_all due acts pipe f [] one = subst (λ (l : List LinkAct). SaysTopicsFirst due l) (sym (append-nil acts)) f
behind_all due acts pipe f (x ∷ []) one =
    behind_one due acts x f (next_is pipe f.left x (λ never. one x [] refl (λ p. never (subst (λ (y : LinkAct). IsNextOf pipe f.left y) (the_first x p.0 [] p.2) p.1))))
behind_all due acts pipe f (x ∷ (y ∷ ys)) one = absurd (one x (y ∷ ys) refl (λ p. no_more_than x y p.0 ys p.2))

left_same : (said left : List Topic) → drop (length (topics_said said)) (said ++ left) ≡ left
left_same [] left = refl
left_same (t ∷ said) left = left_same said left

abbrev WritesWith : Basis → Standing → List Topic → (acts more : List LinkAct) → Type 0
WritesWith b s topics acts more =
    (HasNext s topics × IsWritePart b.opts (IsNextOf (read_pipe b) topics) acts more) ⊎ ((HasNext s topics → ⊥) × IsWriteOnly b acts more)

written : (b : Basis) (s : Standing) (due : List Topic) (acts more : List LinkAct) (f : SaysTopicsFirst due acts) → WritesWith b s f.left acts more → SaysTopicsFirst due (acts ++ more)
unfolding still
written b s due acts more f (inl k) =
    let w = k.1 in
    let writes = write_acts w.answer w.octets in
    let g = still due acts writes (silent_writes w.answer w.octets) f in
    subst (λ (l : List LinkAct). SaysTopicsFirst due (acts ++ l)) (sym w.all)
    (subst (λ (l : List LinkAct). SaysTopicsFirst due l) (append_assoc acts writes w.takes)
    (behind_all due (acts ++ writes) (read_pipe b) g w.takes (λ x xs e never.
    no_nil x xs (sym e ∙ w.wait (λ may. never (w.take (λ over. no_nil x xs (sym e ∙ w.over over)) may))))))
written b s due acts more f (inr k) =
    let w = k.1 in
    subst (λ (l : List LinkAct). SaysTopicsFirst due (acts ++ l)) (sym w.all) (still due acts (write_acts w.answer w.octets) (silent_writes w.answer w.octets) f)

writes_first : (b : Basis) (s : Standing) (acts more : List LinkAct) → SaysTopicsFirst (topics_due b s.closed) acts → WritesAt b s acts more → SaysTopicsFirst (topics_due b s.closed) (acts ++ more)
writes_first b s acts more f w =
    let due = topics_due b s.closed in
    let left : topics_left b s acts ≡ f.left =
    ap (λ (l : List Frames). drop (length l) due) f.repeated ∙ ap (λ (l : List Topic). drop (length (topics_said f.said)) l) (sym f.all) ∙ left_same f.said f.left in
    written b s due acts more f (subst (λ (t : List Topic). WritesWith b s t acts more) left w)

-- ---- the other parts

reads_first : (b : Basis) (s : Standing) (due : List Topic) (acts more : List LinkAct) → SaysTopicsFirst due acts → ReadsAt b s acts more → SaysTopicsFirst due (acts ++ more)
reads_first b s due acts more f (no_more is e) = still due acts more (silent_as [] more e silent_none) f
reads_first b s due acts more f (puts_at never push can r) =
    still due acts more (silent_as (read_acts r.answer r.octets ++ r.later) more r.all
    (silent_on (read_acts r.answer r.octets) r.later (silent_reads r.answer r.octets) (silent_all _ _ _ r.later r.whole))) f
reads_first b s due acts more f (drops never push r) = still due acts more (silent_as (read_acts r.answer r.octets) more r.all (silent_reads r.answer r.octets)) f
reads_first b s due acts more f (holds never push can r) = still due acts more (silent_as (read_acts r.answer r.octets) more r.all (silent_reads r.answer r.octets)) f

puts_first : (b : Basis) (s : Standing) (due : List Topic) (acts more : List LinkAct) → SaysTopicsFirst due acts → PutsLast b s acts more → SaysTopicsFirst due (acts ++ more)
puts_first b s due acts more f (inl k) = still due acts more (silent_all _ _ _ more k.1) f
puts_first b s due acts more f (inr k) = still due acts more (silent_as [] more k.1 silent_none) f

last_first : (b : Basis) (due : List Topic) (acts more : List LinkAct) → SaysTopicsFirst due acts → IsWriteOnly b acts more → SaysTopicsFirst due (acts ++ more)
last_first b due acts more f w = still due acts more (silent_as (write_acts w.answer w.octets) more w.all (silent_writes w.answer w.octets)) f

-- ---- at the other side

first_of : (due : List Topic) (xs : List LinkAct) (f : SaysTopicsFirst due xs) → (f.left ≡ []) ⊎ (taken_of xs ≡ []) → IsPrefix (offered_of xs) (topics_said due ++ taken_of xs)
first_of due xs f (inl none) =
    let same : f.said ≡ due = sym (append-nil f.said) ∙ ap (λ (l : List Topic). f.said ++ l) (sym none) ∙ f.all in
    ([], append-nil (offered_of xs) ∙ f.offered ∙ ap (λ (l : List Topic). topics_said l ++ taken_of xs) same)
first_of due xs f (inr none) =
    let all : topics_said f.said ++ topics_said f.left ≡ topics_said due = sym (map-append (λ x. tell_message (1, x)) f.said f.left) ∙ ap (λ (l : List Topic). topics_said l) f.all in
    let offers : offered_of xs ≡ topics_said f.said = f.offered ∙ ap (λ (l : List Frames). topics_said f.said ++ l) none ∙ append-nil (topics_said f.said) in
    (topics_said f.left, ap (λ (l : List Frames). l ++ topics_said f.left) offers ∙ all ∙ sym (append-nil (topics_said due)) ∙ ap (λ (l : List Frames). topics_said due ++ l) (sym none))

heard_first : (due : List Topic) (xs ys : List LinkAct) (e : Decoded) → Crosses xs ys e → SaysTopicsFirst due xs → IsPrefix e.messages (topics_said due ++ taken_of xs)
heard_first due xs ys e c f = front_trans e.messages (offered_of xs) (topics_said due ++ taken_of xs) c.heard (first_of due xs f f.wait)

pub topics_first : TopicsComeFirst
topics_first = record {
  begins = λ due. record { said = []; left = due; all = refl; repeated = refl; offered = refl; wait = inr refl };
  writes = writes_first;
  reads = reads_first;
  puts = puts_first;
  last = last_first;
  heard = heard_first;
}
