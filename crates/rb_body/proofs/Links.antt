-- The inertia of a link encloses the body relation.
use Rattle.std.proofs.Common.{◌≡◌, [], Result, Ok, Err, IfOk, refl}
use Rattle.std.proofs.lemmas.Result.{IfOk-at_ok}
use Rattle.rb_frac.specs.Frac.{Frac, Same, fracs}
use Rattle.rb_frac.specs.Tables.{Tables}
use Rattle.rb_frac.specs.Spatial.{Frame, BodyInertia, BodyInertias}
use Rattle.rb_num.specs.Interval.{Interval}
use Rattle.rb_num.specs.Fraction.{LiesIn}
use Rattle.rb_num.specs.Arith.{intervals}
use Rattle.rb_num.proofs.Same.{lies_in_same}
use Rattle.rb_num.proofs.Bridges.{to_intervals, ok_met}
use Rattle.rb_result.specs.Steps.{◌>>=◌, told_as}
use Rattle.rb_result.proofs.Results.{told-ok}
use Rattle.rb_flat.specs.Turns.{roll_pitch_yaw}
use Rattle.rb_flat.specs.Joint.{JointChoice, chosen_frame}
use Rattle.rb_flat.specs.Body.{BodyChoice}
use Rattle.rb_flat.specs.Choice.{LinkBrackets, LinkChosen}
use Rattle.rb_joint.specs.Frames.{frame_by}
use Rattle.rb_joint.proofs.Choices.{vectors_same, frame_answer}
use Rattle.rb_body.specs.declared.faults.BodyFault.{BodyFault}
use Rattle.rb_body.specs.Faults.{of_frame, of_number}
use Rattle.rb_body.specs.Inertia.{body, inertia_by, EnclosesInertia}
use Rattle.rb_body.proofs.Keep.{body_met}
use Rattle.rb_body.proofs.Identities.{body-relation}

-- ---- steps
-- a fact of the answer, if there is one
told_ok : {A E : Type 0} (P : A → Type 0) (g : E → BodyFault) (r : Result A E) → ((x : A) → r ≡ Ok x → P x) → IfOk (told_as g r) P
told_ok P g (Ok x) f = f x refl
told_ok P g (Err e) f = tt

-- a fact of the answer of the second step
pub next_ok : {A B : Type 0} (P : B → Type 0) (r : Result A BodyFault) (f : A → Result B BodyFault) → ((x : A) → r ≡ Ok x → IfOk (f x) P) → IfOk (r >>= f) P
next_ok P (Ok x) f h = h x refl
next_ok P (Err e) f h = tt

bodies_same : {u v : BodyInertia Frac} {w : BodyInertia Interval} → BodyInertias Same u v → BodyInertias LiesIn u w → BodyInertias LiesIn v w
bodies_same s h = record {
  mass = lies_in_same _ _ _ s.mass h.mass;
  first = vectors_same s.first h.first;
  six = record {
    xx = lies_in_same _ _ _ s.six.xx h.six.xx;
    xy = lies_in_same _ _ _ s.six.xy h.six.xy;
    xz = lies_in_same _ _ _ s.six.xz h.six.xz;
    yy = lies_in_same _ _ _ s.six.yy h.six.yy;
    yz = lies_in_same _ _ _ s.six.yz h.six.yz;
    zz = lies_in_same _ _ _ s.six.zz h.six.zz;
  };
}

-- ---- links
-- the frame of the link, as that of a joint
framed : BodyChoice → JointChoice
framed c = record {
  origin = c.centre;
  rpy = c.rpy;
  roll = c.roll;
  pitch = c.pitch;
  yaw = c.yaw;
  axis = c.centre;
  factor = c.mass;
  entries = [];
  angle = c.roll;
  multiplier = c.mass;
  offset = c.mass;
}

rotation_lies : (l : LinkBrackets) (f : Frame Interval) → frame_by l.centre l.rpy ≡ Ok f → (c : BodyChoice) → LinkChosen c l → Tables LiesIn (roll_pitch_yaw fracs c.roll c.pitch c.yaw) f.rot
unfolding framed chosen_frame
rotation_lies l f e c h =
    ((frame_answer l.centre l.rpy f e).at (framed c) h.angles h.centre h.rpy).frame.rot

inertia_encloses : (l : LinkBrackets) → IfOk (inertia_by l) (EnclosesInertia l)
unfolding inertia_by
inertia_encloses l =
    next_ok _ (told_as of_frame (frame_by l.centre l.rpy)) _ (λ f e.
    told_ok _ of_number (body intervals f.rot l.mass l.centre l.six) (λ i k. record {
      at = λ c h.
          bodies_same (body-relation c) (ok_met k (body_met to_intervals (rotation_lies l f (told-ok of_frame _ f e) c h) h.mass h.centre h.six));
    }))

pub inertia_answer : (l : LinkBrackets) (i : BodyInertia Interval) → inertia_by l ≡ Ok i → EnclosesInertia l i
inertia_answer l i e = IfOk-at_ok _ e (inertia_encloses l)
