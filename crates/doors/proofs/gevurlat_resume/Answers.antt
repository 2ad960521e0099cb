use native.Mathlib.Omega.{arith}
use Rattle.run.specs.Resume.{Resumes}
use Rattle.run.proofs.Promises.{resume-call, place-most}
use Rattle.doors.proofs.Reading.{called}
use Rattle.doors.proofs.gevurlat_resume.Goals as goal

pub pack-requires : goal.pack-requires
pack-requires c = omega (arith, place-most resume-call c.resume-resumed.ensures (λ k. (c.type_inv.strip k).fits))

pub returns : goal.returns
returns c = called c.pack.result c.resume-resumed.result c.pack.ensures (Resumes _ _ _ _ _) _ _ _ c.resume-resumed.ensures
