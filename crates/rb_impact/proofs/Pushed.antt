-- What the impulses put on the columns, where nothing was put on them: to add to zero changes nothing, and is not refused.
use Rattle.std.proofs.Common.{◌≡◌, ℕ, ◌≤◌, List, length, Ok, Err, sym, ap, ◌∙◌, subst, arith}
use Rattle.rb_num.specs.Interval.{Interval, zero_interval}
use Rattle.rb_num.specs.declared.interval.NumFault.{NumFault}
use Rattle.rb_num.specs.declared.interval.NumFault.TheVariants as N
use Rattle.rb_num.specs.Dot.{iv_dot}
use Rattle.rb_num.specs.Refusing.{iv_add}
use Rattle.rb_num.proofs.Zeros.{add-zero_left}
use Rattle.rb_result.proofs.Results.{same_ok, not-both}
use Rattle.rb_flat.specs.Contact.{Constraints}
use Rattle.rb_work.specs.declared.names.NameKind.TheVariants as K
use Rattle.rb_work.specs.declared.names.RowFault.{RowFault}
use Rattle.rb_work.specs.Names.{one, named_as}
use Rattle.rb_work.specs.View.{View, columns_of, Y_at, lam_at, w_at}
use Rattle.rb_tree.specs.Columns.{column_count}
use Rattle.rb_tree.specs.Robot.{Tree, HasColumn}
use Rattle.rb_coupling.specs.Steps.{pairs_of}
use Rattle.rb_coupling.specs.Forces.{IsTotalRefused, in_sum, in_total, HoldsAddedForces, RefusesAddedForces}
use Rattle.rb_coupling.proofs.Rigid.{pairs_long, whole}
use Rattle.rb_impact.specs.Pushes.{w_rule, ArePushes, IsPushRefused}
use Rattle.rb_impact.proofs.Passes.{IsUnpushed}

module _ (n : ℕ) (few : n ≤ 64) (a b : ℕ → Interval) where
  -- what is added to zero
  alone : (t : Interval) → iv_dot (pairs_of a b n) ≡ Ok t → iv_add zero_interval t ≡ Ok t
  alone t h =
      let long : length (pairs_of a b n) ≡ n = pairs_long a b n in
      add-zero_left t (whole (pairs_of a b n) t (omega arith) h)

  total_is : (start more total : Interval) → start ≡ zero_interval → iv_dot (pairs_of a b n) ≡ Ok more → iv_add start more ≡ Ok total → more ≡ total
  total_is start more total e h k =
      same_ok {E = NumFault} more total (sym (alone more h) ∙ ap (λ (v : Interval). iv_add v more) (sym e) ∙ k)

  total_refused : (start : Interval) → start ≡ zero_interval → IsTotalRefused start n a b → iv_dot (pairs_of a b n) ≡ Err N.Size
  total_refused start e (in_sum h) = h
  total_refused start e (in_total sum h k) =
      absurd (not-both (iv_add start sum) sum N.Size (ap (λ (v : Interval). iv_add v sum) e ∙ alone sum h) k)

module _ (tree : Tree) (k : Constraints Interval) (few : k.rows ≤ 64) where
  pushes_at : (o : View) (w : List Interval) → columns_of o ≡ column_count tree.bodies → IsUnpushed tree o → HoldsAddedForces k.rows o (record o { w = w })
      → ArePushes tree k (record o { w = w })
  unfolding w_rule
  pushes_at o w columns none h =
      let a : View = record o { w = w } in
      record {
        each_w = λ c there.
            let low = there.from in
            let high : c ≤ columns_of o = subst (λ (n : ℕ). c ≤ n) (sym columns) there.to in
            let sum = h.are.sums c (record { from = low; to = high }) in
            let total = h.are.totals c (record { from = low; to = high }) in
            let same : h.more c ≡ w_at a c = total_is k.rows few (λ r. Y_at o r c) (lam_at o) (w_at o c) (h.more c) (w_at a c) (none.each_w c there) sum total in
            ap (named_as (one K.w c)) (subst (λ (v : Interval). iv_dot (pairs_of (λ r. Y_at o r c) (lam_at o) k.rows) ≡ Ok v) same sum);
      }

  pub pushes_from : (o a : View) → columns_of o ≡ column_count tree.bodies → IsUnpushed tree o → a ≡ record o { w = a.w } → HoldsAddedForces k.rows o a → ArePushes tree k a
  pushes_from o a columns none e h =
      subst (λ (v : View). ArePushes tree k v) (sym e) (pushes_at o a.w columns none (subst (λ (v : View). HoldsAddedForces k.rows o v) e h))

  -- of the work that was given before anything was cleared
  refused_at : (f : View) (w : List Interval) (e : RowFault) → columns_of f ≡ column_count tree.bodies → IsUnpushed tree (record f { w = w })
      → RefusesAddedForces k.rows (record f { w = w }) e → IsPushRefused tree k f e
  unfolding w_rule
  refused_at f w e columns none h =
      let o : View = record f { w = w } in
      let there : HasColumn tree h.column = record { from = h.there.from; to = subst (λ (n : ℕ). h.column ≤ n) columns h.there.to } in
      record {
        column = h.column;
        there = there;
        until = λ c low high. let v = h.until c low high in (v.1.sum, ap (named_as (one K.w c)) v.1.sums);
        refused = ap (named_as (one K.w h.column)) (total_refused k.rows few (λ r. Y_at o r h.column) (lam_at o) (w_at o h.column) (none.each_w h.column there) h.refused) ∙ ap Err (sym h.named);
      }

  pub push_refused : (f o : View) (e : RowFault) → columns_of f ≡ column_count tree.bodies → o ≡ record f { w = o.w } → IsUnpushed tree o → RefusesAddedForces k.rows o e
      → IsPushRefused tree k f e
  push_refused f o e columns eo none h =
      refused_at f o.w e columns (subst (λ (v : View). IsUnpushed tree v) eo none) (subst (λ (v : View). RefusesAddedForces k.rows v e) eo h)
