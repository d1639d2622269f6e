pub mod WindowLemmas
pub mod PlanLemmas
pub mod MailPlanLemmas
pub mod ServedLemmas
pub mod WindowPlanLemmas
