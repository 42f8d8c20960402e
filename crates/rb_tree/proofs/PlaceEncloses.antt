-- The place of each body of each choice lies in its value.
use Rattle.std.proofs.Common.{◌≡◌, ℕ, ◌-◌, ◌≤◌, List, [], ◌∷◌, take, Option, None, Some, Ok, refl, sym, ap, ◌∙◌, subst, arith}
use Rattle.std.specs.List.{AllZip}
use Rattle.std.specs.Option.{option_map_or}
use Rattle.rb_frac.specs.Frac.{Frac, Same, fracs, add, mul}
use Rattle.rb_frac.specs.Pairs.{dot}
use Rattle.rb_frac.specs.Spatial.{Places}
use Rattle.rb_frac.proofs.Ring.{expr, var}
use Rattle.rb_frac.proofs.Rational.{sound, exact}
use Rattle.rb_frac.proofs.Hom.{frac_ring}
use Rattle.rb_frac.proofs.Variables.{at}
use Rattle.rb_num.specs.Interval.{Interval, one_interval}
use Rattle.rb_num.specs.Fraction.{LiesIn}
use Rattle.rb_num.specs.Dot.{iv_dot}
use Rattle.rb_num.proofs.Same.{lies_in_same}
use Rattle.rb_num.proofs.Relates.{dot_met}
use Rattle.rb_num.proofs.Bridges.{to_intervals, ok_met, one_lies}
use Rattle.rb_result.proofs.Results.{same_ok, then-ok, told-ok}
use Rattle.rb_flat.specs.Joint as Kinds
use Rattle.rb_flat.specs.Joint.{Kind, JointChoice, entry_count, chosen_place}
use Rattle.rb_flat.specs.Choice as Flat
use Rattle.rb_flat.specs.Choice.{Choice, IsChoice, JointChosen, EntriesChosen, MimicBrackets, items_from}
use Rattle.rb_flat.specs.Mechanism.{mechanism_of}
use Rattle.rb_joint.specs.Any.{kind_of, any_place}
use Rattle.rb_body.specs.Raw.{joint_brackets, kind_of as kind_of_raw}
use Rattle.rb_body.specs.Joint.{EnclosesJoint}
use Rattle.rb_work.specs.declared.names.RowFault.{RowFault}
use Rattle.rb_work.specs.declared.names.NameKind.TheVariants as K
use Rattle.rb_work.specs.Names.{one, named_as}
use Rattle.rb_work.specs.View.{View, q_at, X_at}
use Rattle.rb_tree.specs.declared.robot.Body.{Body}
use Rattle.rb_tree.specs.declared.robot.Mimic.{Mimic}
use Rattle.rb_tree.specs.Columns.{body_at, first_entry, start_behind}
use Rattle.rb_tree.specs.Numbers.{joint_at, mimic_at, no_joint}
use Rattle.rb_tree.specs.Robot.{Tree, HasBody, AreBodies, mimic_brackets}
use Rattle.rb_tree.specs.Shape.{kind_at, master_of, master_at, shape_of, no_mimic, following_at, brackets_of}
use Rattle.rb_tree.specs.Shape as Shape
use Rattle.rb_tree.specs.State.{Row, at_place, state_brackets}
use Rattle.rb_tree.specs.Places.{padded, entries_by, q_rule, X_rule, ArePlaces, EnclosesPlaces}
use Rattle.rb_tree.proofs.ColumnLaws.{few_entries}
use Rattle.rb_tree.proofs.Shapes.{body_there, kept_at, encloses_joint, mimics_fit}
use Rattle.rb_tree.proofs.Entries.{take_padded, length-items, leader_own, leader_master}

-- ---- bodies by their number
pub kind_same : (bodies : List Body) (i : ℕ) → kind_at bodies i ≡ kind_of (joint_at bodies i)
kind_same bodies i = go (body_at bodies i)
  where
    go : (o : Option Body) → option_map_or (λ (b : Body). kind_of b.joint) o Kinds.Fixed ≡ kind_of (option_map_or (λ (b : Body). b.joint) o no_joint)
    go None = refl
    go (Some body) = refl

pub master_same : (bodies : List Body) (i : ℕ) → master_at bodies i ≡ master_of (mimic_at bodies i)
master_same bodies i = go (body_at bodies i)
  where
    go : (o : Option Body) → option_map_or (λ (b : Body). master_of b.mimic) o None ≡ master_of (option_map_or (λ (b : Body). b.mimic) o None)
    go None = refl
    go (Some body) = refl

pub mimic_same : (tree : Tree) (i : ℕ) → (brackets_of tree).mimic i ≡ following_at tree.bodies i
mimic_same tree i = go (body_at tree.bodies i)
  where
    go : (o : Option Body) → option_map_or (λ (b : Body). option_map_or mimic_brackets b.mimic no_mimic) o no_mimic ≡ option_map_or mimic_brackets (option_map_or (λ (b : Body). b.mimic) o None) no_mimic
    go None = refl
    go (Some body) = refl

-- ---- entries
followed_same : (m e o : Frac) → Same (dot fracs ((m, e) ∷ (o, fracs.one) ∷ [])) (add (mul m e) o)
unfolding dot
followed_same m e o =
    frac_ring (at (m ∷ e ∷ o ∷ [])) (dot expr ((var 0, var 1) ∷ (var 2, expr.one) ∷ [])) (expr.add (expr.mul (var 0) (var 1)) (var 2)) refl

followed_lies : (x m e o : Frac) (multiplier led offset v : Interval) → Same x (add (mul m e) o) → LiesIn m multiplier → LiesIn e led → LiesIn o offset
    → iv_dot ((multiplier, led) ∷ (offset, one_interval) ∷ []) ≡ Ok v → LiesIn x v
followed_lies x m e o multiplier led offset v s hm he ho d =
    let d_of = dot fracs ((m, e) ∷ (o, fracs.one) ∷ []) in
    let whole : Same d_of x = exact d_of x (sound d_of (add (mul m e) o) (followed_same m e o) ∙ sym (sound x (add (mul m e) o) s)) in
    lies_in_same d_of x v whole (ok_met d (dot_met to_intervals _ _ (hm, he, (ho, one_lies, tt))))

first_lies : (xs : List Frac) (x : Frac) (f : ℕ → Interval) (place n : ℕ) → AllZip LiesIn xs (items_from f place n) → xs ≡ x ∷ [] → n ≡ 1 → LiesIn x (f place)
first_lies xs x f place n h e en =
    let at_one : AllZip LiesIn (x ∷ []) (items_from f place 1) = subst (λ ys. AllZip LiesIn ys (items_from f place 1)) e (subst (λ m. AllZip LiesIn xs (items_from f place m)) en h) in
    at_one.0

module _ (tree : Tree) (row : Row) (kept : AreBodies tree.bodies) (c : Choice) (chosen : IsChoice (brackets_of tree) (state_brackets row) c) where
  -- the entry of a joint that leads
  led_lies : (i : ℕ) (x : Frac) → HasBody tree i → master_at tree.bodies i ≡ None → entry_count (kind_at tree.bodies i) ≡ 1 → (c.joint i).entries ≡ x ∷ []
      → LiesIn x (at_place row.q (first_entry tree.bodies i))
  unfolding state_brackets
  led_lies i x has leads count e =
      let b = chosen.bodies i (record { from = has.from; to = has.to }) in
      let zip : EntriesChosen (brackets_of tree) (state_brackets row) c i None = subst (λ m. EntriesChosen (brackets_of tree) (state_brackets row) c i m) leads b.entries in
      first_lies (c.joint i).entries x (at_place row.q) (first_entry tree.bodies i) (entry_count (kind_at tree.bodies i)) zip e count

  entries_lie : (i : ℕ) (body : Body) (m : Option Mimic) (q : List Interval) → HasBody tree i → body_at tree.bodies i ≡ Some body → mimic_at tree.bodies i ≡ m
      → entries_by row tree.bodies i m ≡ Ok q → AllZip LiesIn (c.joint i).entries (take (entry_count (kind_of (joint_at tree.bodies i))) q)
  unfolding state_brackets
  entries_lie i body None q has is em e =
      let n = entry_count (kind_of (joint_at tree.bodies i)) in
      let items = items_from (at_place row.q) (first_entry tree.bodies i) n in
      let b = chosen.bodies i (record { from = has.from; to = has.to }) in
      let zip : EntriesChosen (brackets_of tree) (state_brackets row) c i None =
      subst (λ m. EntriesChosen (brackets_of tree) (state_brackets row) c i m) (master_same tree.bodies i ∙ ap master_of em) b.entries in
      let at_n : AllZip LiesIn (c.joint i).entries items =
      subst (λ k. AllZip LiesIn (c.joint i).entries (items_from (at_place row.q) (first_entry tree.bodies i) (entry_count k))) (kind_same tree.bodies i) zip in
      let few : n ≤ 7 = few_entries (kind_of (joint_at tree.bodies i)) in
      let taken : take n (padded 7 items) ≡ items =
      subst (λ k. take k (padded 7 items) ≡ items) (length-items (at_place row.q) (first_entry tree.bodies i) n) (take_padded 7 items (omega (arith, length-items (at_place row.q) (first_entry tree.bodies i) n))) in
      subst (λ xs. AllZip LiesIn (c.joint i).entries xs) (sym taken ∙ ap (take n) (same_ok {E = RowFault} _ _ e)) at_n
  entries_lie i body (Some mimic) q has is em e =
      let bodies = tree.bodies in
      let b = chosen.bodies i (record { from = has.from; to = has.to }) in
      let follows : Flat.FollowsMaster (c.joint i) (c.joint mimic.master) ((brackets_of tree).mimic i) =
      subst (λ m. EntriesChosen (brackets_of tree) (state_brackets row) c i m) (master_same bodies i ∙ ap master_of em) b.entries in
      let brackets : (brackets_of tree).mimic i ≡ mimic_brackets mimic = mimic_same tree i ∙ ap (λ m. option_map_or mimic_brackets m no_mimic) em in
      let bm : body.mimic ≡ Some mimic = sym (ap (λ (o : Option Body). option_map_or (λ (b : Body). b.mimic) o None) is) ∙ em in
      let f = kept.follows i body mimic is bm in
      let fit = mimics_fit tree kept i mimic.master (record { from = has.from; to = has.to }) (master_same bodies i ∙ ap master_of em) in
      let led = led_lies mimic.master follows.master_entry (record { from = fit.there.from; to = fit.there.to }) fit.leads fit.master_entry follows.master_entries in
      let own : mimic_at bodies mimic.master ≡ None = ap (λ (o : Option Body). option_map_or (λ (b : Body). b.mimic) o None) f.is ∙ f.leads in
      let place : first_entry bodies mimic.master ≡ first_entry bodies i =
      ap (λ l. (start_behind bodies (l - 1)).entry) (leader_own bodies mimic.master own ∙ sym (leader_master bodies i mimic em)) in
      let s = then-ok (named_as (one K.q i) (iv_dot ((mimic.multiplier, at_place row.q (first_entry bodies i)) ∷ (mimic.offset, one_interval) ∷ []))) _ q e in
      let lies : LiesIn follows.entry s.0 =
      followed_lies follows.entry (c.joint i).multiplier follows.master_entry (c.joint i).offset mimic.multiplier (at_place row.q (first_entry bodies i)) mimic.offset s.0 follows.is
      (subst (λ (z : MimicBrackets). LiesIn (c.joint i).multiplier z.multiplier) brackets follows.multiplier)
      (subst (λ p. LiesIn follows.master_entry (at_place row.q p)) place led)
      (subst (λ (z : MimicBrackets). LiesIn (c.joint i).offset z.offset) brackets follows.offset)
      (told-ok _ _ _ s.1) in
      let count : entry_count (kind_of (joint_at bodies i)) ≡ 1 = ap (λ (o : Option Body). entry_count (kind_of (option_map_or (λ (b : Body). b.joint) o no_joint))) is ∙ f.entry in
      let taken : take 1 q ≡ s.0 ∷ [] = ap (take 1) (sym (same_ok {E = RowFault} _ _ s.2)) in
      let zip : AllZip LiesIn (follows.entry ∷ []) (s.0 ∷ []) = (lies, tt) in
      rw count (rw taken (subst (λ xs. AllZip LiesIn xs (s.0 ∷ [])) (sym follows.entries) zip))

  -- the joint of body i with what it encloses, and its numbers in the choice
  pub record ModelAt (i : ℕ) : Type 0 where
    pub body : Body
    pub there : body_at tree.bodies i ≡ Some body
    pub is : joint_at tree.bodies i ≡ body.joint
    pub encloses : EnclosesJoint body.joint body.joint_raw
    pub numbers : JointChosen (kind_of_raw body.joint_raw.kind) (c.joint i) (joint_brackets body.joint_raw)

  pub model_at : (i : ℕ) → HasBody tree i → ModelAt i
  model_at i has =
      let found = body_there tree.bodies i has.from has.to in
      let body = found.0 in
      let b = chosen.bodies i (record { from = has.from; to = has.to }) in
      let encl = encloses_joint body (kept_at tree.bodies i body kept.kept found.1) in
      let numbers : JointChosen (kind_of body.joint) (c.joint i) (joint_brackets body.joint_raw) =
      subst (λ (o : Option Body). JointChosen (option_map_or (λ (b : Body). kind_of b.joint) o Kinds.Fixed) (c.joint i) (option_map_or (λ (b : Body). joint_brackets b.joint_raw) o Shape.no_joint)) found.1 b.joint in
      record {
        body = body;
        there = found.1;
        is = ap (λ (o : Option Body). option_map_or (λ (b : Body). b.joint) o no_joint) found.1;
        encloses = encl;
        numbers = subst (λ k. JointChosen k (c.joint i) (joint_brackets body.joint_raw)) encl.kind numbers;
      }

  pub place_lies : (w : View) (i : ℕ) → ArePlaces tree row w → HasBody tree i → Places LiesIn (chosen_place (kind_at tree.bodies i) (c.joint i)) (X_at w i)
  unfolding q_rule X_rule
  place_lies w i h has =
      let m = model_at i has in
      let zip = entries_lie i m.body (mimic_at tree.bodies i) (q_at w i) has m.there refl (h.each_q i has) in
      let placed : any_place m.body.joint (take (entry_count (kind_of (joint_at tree.bodies i))) (q_at w i)) ≡ Ok (X_at w i) =
      ap (λ j. any_place j (take (entry_count (kind_of (joint_at tree.bodies i))) (q_at w i))) (sym m.is) ∙ told-ok _ _ _ (h.each_X i has) in
      let lies = m.encloses.place (c.joint i) _ (X_at w i) m.numbers zip placed in
      subst (λ k. Places LiesIn (chosen_place k (c.joint i)) (X_at w i)) (sym m.encloses.kind ∙ ap kind_of (sym m.is) ∙ sym (kind_same tree.bodies i)) lies

pub places_enclose : (tree : Tree) (row : Row) (w : View) → AreBodies tree.bodies → ArePlaces tree row w → EnclosesPlaces tree row w
unfolding mechanism_of
places_enclose tree row w kept h = record { at = λ c i chosen has. place_lies tree row kept c chosen w i h has }
